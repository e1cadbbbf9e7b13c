-- `vmd_export::scan_fitting` meets its contract. Assumes nothing.
use mathlib.Core.Path.{sym, ◌∙◌}
use native.Mathlib.Omega.{arith}
use Rattle.vmd_base.proofs.Refused.{handed_on}
use Rattle.vmd_export.proofs.Laws.{fitting_refused, fitting_long, fitting_found}
use Rattle.vmd_export.proofs.scan_fitting.Goals as goal

pub returns-in_err-take-clause-found : goal.returns-in_err-take-clause-found
returns-in_err-take-clause-found c =
    handed_on _ _ _ c.from_residual.ensures.1 ∙ fitting_refused _ _ _ _ (sym c.in_err-take.ensures.found)

pub returns-then-model_width-model_name-clause-found : goal.returns-then-model_width-model_name-clause-found
returns-then-model_width-model_name-clause-found c =
    fitting_long _ _ _ _ (sym c.in_ok-take.ensures.found) _ c.model_name.ensures (omega (arith, c.model_width.ensures.value))

pub returns-clause-found : goal.returns-clause-found
returns-clause-found c =
    fitting_found _ _ _ _ (sym c.in_ok-take.ensures.found) _ c.model_name.ensures (omega (arith, c.model_width.ensures.value))
