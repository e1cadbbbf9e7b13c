-- `vmd_checks::VmdParts::records_check` meets its contract. Assumes nothing.
use Rattle.vmd_names.proofs.Checks.{chain_fails, chain_on, exit_fails}
use Rattle.vmd_checks.specs.Stages.{records_right}
use Rattle.vmd_checks.proofs.VmdParts.records_check.Goals as goal

pub returns-in_err-cameras_check : goal.returns-in_err-cameras_check
unfolding records_right
returns-in_err-cameras_check c = exit_fails _ _ c.from_residual.ensures.1 (chain_fails _ c.in_err-cameras_check.ensures)

pub returns-in_err-lights_check : goal.returns-in_err-lights_check
unfolding records_right
returns-in_err-lights_check c =
    exit_fails _ _ c.from_residual-in_err-lights_check.ensures.1
    (chain_on _ c.in_ok-cameras_check.ensures (chain_fails _ c.in_err-lights_check.ensures))

pub returns-in_err-self_shadows_check : goal.returns-in_err-self_shadows_check
unfolding records_right
returns-in_err-self_shadows_check c =
    exit_fails _ _ c.from_residual-in_err-self_shadows_check.ensures.1
    (chain_on _ c.in_ok-cameras_check.ensures
    (chain_on _ c.in_ok-lights_check.ensures (chain_fails _ c.in_err-self_shadows_check.ensures)))

pub returns : goal.returns
unfolding records_right
returns c =
    chain_on _ c.in_ok-cameras_check.ensures
    (chain_on _ c.in_ok-lights_check.ensures
    (chain_on _ c.in_ok-self_shadows_check.ensures c.properties_check.ensures))
