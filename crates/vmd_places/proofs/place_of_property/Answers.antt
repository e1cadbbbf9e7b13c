-- `vmd_places::place_of_property` meets its contract. Assumes nothing.
use mathlib.Core.Path.{sym, ◌∙◌}
use native.Mathlib.Omega.{arith}
use Rattle.vmd_base.proofs.Refused.{handed_on}
use Rattle.vmd_places.proofs.Places.{property_past, scratch_past, property_refused, property_walked}
use Rattle.vmd_places.proofs.place_of_property.Goals as goal

pub returns-then-i-section : goal.returns-then-i-section
returns-then-i-section c = sym (property_past _ _ _ _ c.if-i-section.true)

pub returns-then-scratch-j : goal.returns-then-scratch-j
returns-then-scratch-j c = sym (scratch_past _ _ _ _ (omega arith) (omega arith))

pub returns-in_err-at : goal.returns-in_err-at
returns-in_err-at c =
    handed_on _ _ _ c.from_residual.ensures.1
    ∙ sym (property_refused _ _ _ _ (omega arith) (omega arith) _ (sym c.in_err-at.ensures))

pub returns : goal.returns
returns c =
    c.frame_place.ensures ∙ sym (property_walked _ _ _ _ (omega arith) (omega arith) _ (sym c.in_ok-at.ensures))
