use mathlib.Core.Path.{sym, ◌∙◌}
use native.Mathlib.Nat.{sub-zero}
use native.Mathlib.Omega.{arith}
use Rattle.vmd_base.proofs.Refused.{handed_on}
use Rattle.vmd_places.proofs.Places.{walk_done, walk_refused, walk_step}
use Rattle.vmd_places.proofs.walk_frames.Goals as goal

pub loop-init : goal.loop-init
loop-init c = rw sub-zero

pub returns-in_err-at : goal.returns-in_err-at
returns-in_err-at c =
    handed_on _ _ _ c.from_residual.ensures.1
    ∙ sym (walk_refused _ _ _ _ (omega arith) _ (sym c.in_err-at.ensures))
    ∙ c.loop.invariant

pub loop-preserved : goal.loop-preserved
loop-preserved c =
    sym (walk_step _ _ _ _ (omega arith) _ (sym c.in_ok-at.ensures)) ∙ c.loop.invariant

pub returns : goal.returns
returns c = sym (walk_done _ _ _ (omega arith)) ∙ c.loop.invariant
