use mathlib.Core.Path.{◌∙◌}
use native.Mathlib.Nat.{sub-zero}
use native.Mathlib.Omega.{arith}
use Rattle.vmd_form.specs.FrameLaws.{frames_start, frames_lie, frames_differ, frames_done}
use Rattle.vmd_compare.proofs.Handed.{handed_on}
use Rattle.vmd_compare.proofs.Turns.{frame_turn}
use Rattle.vmd_compare.proofs.compare_properties.Goals as goal

pub loop-init : goal.loop-init
loop-init c = rw sub-zero (frames_start c.args.file.now c.args.at c.args.n c.requires)

pub compare_property-requires : goal.compare_property-requires
compare_property-requires c = frames_lie c.loop.invariant (omega arith)

pub returns-in_err-p : goal.returns-in_err-p
returns-in_err-p c =
    handed_on _ _ c.from_residual.ensures.1 ∙ frames_differ c.loop.invariant (omega arith) _ c.in_err-p.ensures

pub loop-preserved : goal.loop-preserved
loop-preserved c = frame_turn _ _ (omega arith) c.loop.invariant c.in_ok-p.ensures

pub returns : goal.returns
returns c = frames_done c.loop.invariant (omega arith)
