-- `vmd_c::vmd_property_frame` meets its contract. Assumes nothing.
use mathlib.Core.Path.{refl}
use Rattle.vmd_records.specs.Fields.{property_fields}
use Rattle.vmd_slots.specs.Meaning.{property_words, property_slot}
use Rattle.vmd_slots.proofs.Laws.{fetch_property_at, reported}
use Rattle.vmd_c.proofs.vmd_property_frame.Goals as goal

pub returns : goal.returns
unfolding property_words property_fields
returns c =
    let r = c.report.ensures in
    reported property_fields property_slot property_words (λ v. refl) c.property_frame.ensures (fetch_property_at _ _ _ c.opening_of-opening.ensures) _ r.value r.slot_left
