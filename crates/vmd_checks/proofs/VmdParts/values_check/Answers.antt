-- `vmd_checks::VmdParts::values_check` meets its contract. Assumes nothing.
use Rattle.vmd_names.proofs.Checks.{chain_fails, chain_on, exit_fails}
use Rattle.vmd_checks.specs.Stages.{values_right}
use Rattle.vmd_checks.proofs.VmdParts.values_check.Goals as goal

pub returns-in_err-check : goal.returns-in_err-check
unfolding values_right
returns-in_err-check c =
    exit_fails _ _ c.from_residual.ensures.1 (chain_fails _ (rw c.len.ensures at c.in_err-check.ensures))

pub returns : goal.returns
unfolding values_right
returns c =
    chain_on _ (rw c.len.ensures at c.in_ok-check.ensures) (rw c.len-2.ensures at c.check-2.ensures)
