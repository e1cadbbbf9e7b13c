-- `vmd_c::vmd_property_frame_at` meets its contract. Assumes nothing.
use mathlib.Core.Path.{refl, ap, ◌∙◌}
use Rattle.vmd_base.specs.Meaning.{answer_of}
use Rattle.vmd_records.specs.Fields.{property_fields}
use Rattle.vmd_reader.specs.Meaning.{step_fields}
use Rattle.vmd_slots.specs.Meaning.{property_words, property_slot}
use Rattle.vmd_slots.proofs.Laws.{status_declined, status_given, slot_declined, slot_filled, told, arrived}
use Rattle.vmd_c.proofs.vmd_property_frame_at.Goals as goal

pub returns-in-Err : goal.returns-in-Err
returns-in-Err c =
    let e = told step_fields refl c.property_frame_at.ensures (ap answer_of c.in-Err.is) in
    (status_declined e c.number.ensures, slot_declined _ _ e, slot_declined _ _ e)

pub returns-in-Ok : goal.returns-in-Ok
unfolding property_words property_fields
returns-in-Ok c =
    let r = arrived step_fields refl c.property_frame_at.ensures (ap answer_of c.in-Ok.is) in (
      status_given r.is,
      slot_filled _ _ r (λ v z. c.slot.ensures ∙ ap (λ p. property_slot p.0) z),
      slot_filled _ _ r (λ v z. ap (λ p. p.1) z),
    )
