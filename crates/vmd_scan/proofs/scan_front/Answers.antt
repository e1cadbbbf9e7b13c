-- `vmd_scan::scan_front` meets its contract. Assumes nothing.
use mathlib.Core.Path.{refl, sym, ◌∙◌}
use Rattle.vmd_format.specs.Answer.{and_then}
use Rattle.vmd_laws.specs.Places.{extent_in}
use Rattle.vmd_base.proofs.Refused.{handed_on}
use Rattle.vmd_scan.specs.Stages.{scan_front}
use Rattle.vmd_scan.proofs.scan_front.Goals as goal

pub returns-in_err-bones : goal.returns-in_err-bones
unfolding scan_front and_then extent_in
returns-in_err-bones c = handed_on _ _ _ c.from_residual.ensures.1 ∙ rw (sym c.in_err-bones.ensures) refl

pub returns-in_err-morphs : goal.returns-in_err-morphs
unfolding scan_front and_then extent_in
returns-in_err-morphs c = handed_on _ _ _ c.from_residual-in_err-morphs.ensures.1 ∙ rw (sym c.in_ok-bones.ensures, sym c.in_err-morphs.ensures) refl

pub returns-in_err-cameras : goal.returns-in_err-cameras
unfolding scan_front and_then extent_in
returns-in_err-cameras c = handed_on _ _ _ c.from_residual-in_err-cameras.ensures.1 ∙ rw (sym c.in_ok-bones.ensures, sym c.in_ok-morphs.ensures, sym c.in_err-cameras.ensures) refl

pub returns : goal.returns
unfolding scan_front and_then extent_in
returns c = rw (sym c.in_ok-bones.ensures, sym c.in_ok-morphs.ensures, sym c.in_ok-cameras.ensures) refl
