-- `vmd_c::vmd_bone_frame` meets its contract. Assumes nothing.
use mathlib.Core.Path.{refl}
use Rattle.vmd_format.specs.Records.{bone}
use Rattle.vmd_records.specs.Fields.{bone_fields}
use Rattle.vmd_slots.specs.Meaning.{bone_words, bone_slot}
use Rattle.vmd_slots.proofs.Laws.{fetch_at, reported}
use Rattle.vmd_c.proofs.vmd_bone_frame.Goals as goal

pub returns : goal.returns
unfolding bone_words bone_fields
returns c =
    let r = c.report.ensures in
    reported bone_fields bone_slot bone_words (λ v. refl) c.bone_frame.ensures (fetch_at bone (λ x. x.bones) _ _ c.opening_of-opening.ensures) _ r.value r.slot_left
