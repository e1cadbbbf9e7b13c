-- `vmd_c::vmd_camera_interpolation` meets its contract. Assumes nothing.
use mathlib.Core.Path.{ap, ◌∙◌}
use Rattle.vmd_format.specs.Records.{camera}
use Rattle.vmd_slots.specs.Meaning.{part_words}
use Rattle.vmd_slots.proofs.Laws.{field_part_at}
use Rattle.vmd_c.proofs.vmd_camera_interpolation.Goals as goal

pub returns : goal.returns
returns c =
    c.slot.ensures ∙ ap part_words (field_part_at camera 61 (λ x. x.interpolation) 32 (λ x. x.cameras) _ _ c.opening_of.ensures c.camera_interpolation_part.ensures)
