use native.Mathlib.Omega.{arith}
use Rattle.std.specs.Prelude.{Err}
use Rattle.vmd_names.proofs.Checks.{exit_fails, turning_start, turning_fails, turning_turn, turning_end}
use Rattle.vmd_names.proofs.check_each.Goals as goal

pub loop-i-init : goal.loop-i-init
loop-i-init g c = λ f w. turning_start

pub returns-in_err-check : goal.returns-in_err-check
returns-in_err-check g c =
    λ f w. exit_fails _ _ c.from_residual.ensures.1
    (turning_fails (c.loop-i.invariant f w) (omega arith) (w c.loop-i.i (Err c.in_err-check.field-0.0) (omega arith) c.in_err-check.ensures))

pub loop-i-preserved : goal.loop-i-preserved
loop-i-preserved g c =
    λ f w. turning_turn (c.loop-i.invariant f w) (omega arith) (w c.loop-i.i _ (omega arith) c.in_ok-check.ensures)

pub returns : goal.returns
returns g c = λ f w. turning_end (c.loop-i.invariant f w) (omega arith)
