-- `vmd_c::vmd_morph_frame` meets its contract. Assumes nothing.
use mathlib.Core.Path.{refl}
use Rattle.vmd_format.specs.Records.{morph}
use Rattle.vmd_records.specs.Fields.{morph_fields}
use Rattle.vmd_slots.specs.Meaning.{morph_words, morph_slot}
use Rattle.vmd_slots.proofs.Laws.{fetch_at, reported}
use Rattle.vmd_c.proofs.vmd_morph_frame.Goals as goal

pub returns : goal.returns
unfolding morph_words morph_fields
returns c =
    let r = c.report.ensures in
    reported morph_fields morph_slot morph_words (λ v. refl) c.morph_frame.ensures (fetch_at morph (λ x. x.morphs) _ _ c.opening_of-opening.ensures) _ r.value r.slot_left
