use Rattle.vmd_write_columns.proofs.Writing.{pouring_start, pouring_fine, pouring_room, pouring_turn, pouring_end}
use Rattle.vmd_write_columns.proofs.write_floats.Goals as goal

pub loop-i-init : goal.loop-i-init
loop-i-init c = pouring_start c.requires.0 c.requires.1

pub float_to_bits-bits-requires : goal.float_to_bits-bits-requires
float_to_bits-bits-requires c = pouring_fine c.loop-i.invariant c.loop-i-test.true

pub write_u32_le-requires : goal.write_u32_le-requires
write_u32_le-requires c = pouring_room c.loop-i.invariant c.loop-i-test.true

pub loop-i-preserved : goal.loop-i-preserved
loop-i-preserved c =
    pouring_turn c.loop-i.invariant c.loop-i-test.true c.float_to_bits-bits.ensures c.write_u32_le.ensures

pub shape_of-out : goal.shape_of-out
shape_of-out c = c.loop-i.invariant.fill.rest.kept

pub returns : goal.returns
returns c = pouring_end c.loop-i.invariant c.loop-i-test.false
