-- `vmd_c::vmd_light_frame_bits` meets its contract. Assumes nothing.
use mathlib.Core.Path.{refl}
use Rattle.vmd_format.specs.Records.{light}
use Rattle.vmd_records.specs.Fields.{light_bits}
use Rattle.vmd_slots.specs.Meaning.{light_words, light_slot}
use Rattle.vmd_slots.proofs.Laws.{fetch_at, reported}
use Rattle.vmd_c.proofs.vmd_light_frame_bits.Goals as goal

pub returns : goal.returns
unfolding light_words light_bits
returns c =
    let r = c.report.ensures in
    reported light_bits light_slot light_words (λ v. refl) c.light_frame_bits.ensures (fetch_at light (λ x. x.lights) _ _ c.opening_of-opening.ensures) _ r.value r.slot_left
