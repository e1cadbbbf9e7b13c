-- `vmd_c::vmd_camera_frame` meets its contract. Assumes nothing.
use mathlib.Core.Path.{refl}
use Rattle.vmd_format.specs.Records.{camera}
use Rattle.vmd_records.specs.Fields.{camera_fields}
use Rattle.vmd_slots.specs.Meaning.{camera_words, camera_slot}
use Rattle.vmd_slots.proofs.Laws.{fetch_at, reported}
use Rattle.vmd_c.proofs.vmd_camera_frame.Goals as goal

pub returns : goal.returns
unfolding camera_words camera_fields
returns c =
    let r = c.report.ensures in
    reported camera_fields camera_slot camera_words (λ v. refl) c.camera_frame.ensures (fetch_at camera (λ x. x.cameras) _ _ c.opening_of-opening.ensures) _ r.value r.slot_left
