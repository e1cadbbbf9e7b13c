use Rattle.std.proofs.Common.{arith}
use Rattle.vmd_format.specs.Fetch.{next_frame}
use Rattle.vmd_write_properties.proofs.Properties.{walking_lies, walking_room, walking_turn, walking_end}
use Rattle.vmd_write_properties.proofs.write_properties.Goals as goal

pub property_length-size-requires : goal.property_length-size-requires
unfolding next_frame
property_length-size-requires c = omega (arith, walking_lies c.loop.invariant (omega arith))

pub write_property-q-requires : goal.write_property-q-requires
write_property-q-requires c = (walking_lies c.loop.invariant (omega arith), walking_room c.loop.invariant (omega arith))

pub overflow_add-p : goal.overflow_add-p
overflow_add-p c = omega (arith, walking_lies c.loop.invariant (omega arith), c.property_length-size.ensures)

pub loop-preserved : goal.loop-preserved
loop-preserved c =
    walking_turn c.loop.invariant (omega arith) c.property_length-size.result (omega arith) c.property_length-size.ensures c.write_property-q.ensures

pub returns : goal.returns
returns c = walking_end c.loop.invariant (omega arith)
