-- `vmd_checks::VmdParts::names_check` meets its contract. Assumes nothing.
use Rattle.vmd_names.proofs.Checks.{chain_fails, chain_on, exit_fails}
use Rattle.vmd_checks.specs.Stages.{names_right}
use Rattle.vmd_checks.proofs.VmdParts.names_check.Goals as goal

pub returns-in_err-name_check : goal.returns-in_err-name_check
unfolding names_right
returns-in_err-name_check c = exit_fails _ _ c.from_residual.ensures.1 (chain_fails _ c.in_err-name_check.ensures)

pub returns-in_err-names_check : goal.returns-in_err-names_check
unfolding names_right
returns-in_err-names_check c =
    exit_fails _ _ c.from_residual-in_err-names_check.ensures.1
    (chain_on _ c.in_ok-name_check.ensures (chain_fails _ c.in_err-names_check.ensures))

pub returns : goal.returns
unfolding names_right
returns c =
    chain_on _ c.in_ok-name_check.ensures (chain_on _ c.in_ok-names_check.ensures c.names_check-2.ensures)
