use mathlib.Core.Path.{refl}
use native.Mathlib.Omega.{arith}
use Rattle.vmd_laws.specs.SizedLaws.{morph_sized}
use Rattle.vmd_write_columns.proofs.Filling.{columned_start, columned_room, columned_turn, columned_end}
use Rattle.vmd_write_columns.proofs.write_morph_frames.Goals as goal

pub loop-i-init : goal.loop-i-init
loop-i-init c = columned_start morph_sized.wide c.requires.1

pub write_morph_frame-requires-clause-inside : goal.write_morph_frame-requires-clause-inside
write_morph_frame-requires-clause-inside c =
    (omega arith, columned_room c.loop-i.invariant (omega arith))

pub overflow_add-q : goal.overflow_add-q
overflow_add-q c = omega (arith, columned_room c.loop-i.invariant (omega arith))

pub loop-i-preserved : goal.loop-i-preserved
loop-i-preserved c = columned_turn c.loop-i.invariant (omega arith) c.write_morph_frame.ensures refl

pub shape_of-out : goal.shape_of-out
shape_of-out c = c.loop-i.invariant.fill.rest.kept

pub returns : goal.returns
returns c = columned_end c.loop-i.invariant (omega arith)
