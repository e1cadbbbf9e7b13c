-- `vmd_scan::scan_back` meets its contract. Assumes nothing.
use mathlib.Core.Path.{refl, sym, ◌∙◌}
use Rattle.vmd_format.specs.Answer.{and_then}
use Rattle.vmd_laws.specs.Places.{extent_in}
use Rattle.vmd_base.proofs.Refused.{handed_on}
use Rattle.vmd_scan.specs.Stages.{scan_back}
use Rattle.vmd_scan.proofs.scan_back.Goals as goal

pub returns-in_err-lights : goal.returns-in_err-lights
unfolding scan_back and_then extent_in
returns-in_err-lights c = handed_on _ _ _ c.from_residual.ensures.1 ∙ rw (sym c.in_err-lights.ensures) refl

pub returns-in_err-self_shadows : goal.returns-in_err-self_shadows
unfolding scan_back and_then extent_in
returns-in_err-self_shadows c = handed_on _ _ _ c.from_residual-in_err-self_shadows.ensures.1 ∙ rw (sym c.in_ok-lights.ensures, sym c.in_err-self_shadows.ensures) refl

pub returns-in_err-properties : goal.returns-in_err-properties
unfolding scan_back and_then extent_in
returns-in_err-properties c = handed_on _ _ _ c.from_residual-in_err-properties.ensures.1 ∙ rw (sym c.in_ok-lights.ensures, sym c.in_ok-self_shadows.ensures, sym c.in_err-properties.ensures) refl

pub returns : goal.returns
unfolding scan_back and_then extent_in
returns c = rw (sym c.in_ok-lights.ensures, sym c.in_ok-self_shadows.ensures, sym c.in_ok-properties.ensures) refl
