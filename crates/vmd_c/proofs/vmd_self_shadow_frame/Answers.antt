-- `vmd_c::vmd_self_shadow_frame` meets its contract. Assumes nothing.
use mathlib.Core.Path.{refl}
use Rattle.vmd_format.specs.Records.{self_shadow}
use Rattle.vmd_records.specs.Fields.{self_shadow_fields}
use Rattle.vmd_slots.specs.Meaning.{self_shadow_words, self_shadow_slot}
use Rattle.vmd_slots.proofs.Laws.{fetch_at, reported}
use Rattle.vmd_c.proofs.vmd_self_shadow_frame.Goals as goal

pub returns : goal.returns
unfolding self_shadow_words self_shadow_fields
returns c =
    let r = c.report.ensures in
    reported self_shadow_fields self_shadow_slot self_shadow_words (λ v. refl) c.self_shadow_frame.ensures (fetch_at self_shadow (λ x. x.self_shadows) _ _ c.opening_of-opening.ensures) _ r.value r.slot_left
