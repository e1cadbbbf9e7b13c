-- `vmd_c::vmd_bone_interpolation` meets its contract. Assumes nothing.
use mathlib.Core.Path.{ap, ◌∙◌}
use Rattle.vmd_format.specs.Records.{bone}
use Rattle.vmd_slots.specs.Meaning.{part_words}
use Rattle.vmd_slots.proofs.Laws.{field_part_at}
use Rattle.vmd_c.proofs.vmd_bone_interpolation.Goals as goal

pub returns : goal.returns
returns c =
    c.slot.ensures ∙ ap part_words (field_part_at bone 111 (λ x. x.interpolation) 47 (λ x. x.bones) _ _ c.opening_of.ensures c.bone_interpolation_part.ensures)
