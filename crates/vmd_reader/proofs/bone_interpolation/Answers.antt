-- `vmd_reader::bone_interpolation` meets its contract. Assumes nothing.
use Rattle.vmd_places.proofs.Parts.{cut_inside, cut_named}
use Rattle.vmd_places.proofs.Fields.{bone_interpolation, field_cuts}
use Rattle.vmd_reader.proofs.bone_interpolation.Goals as goal

pub cut-requires : goal.cut-requires
cut-requires c = cut_inside c.bone_interpolation_part.ensures (field_cuts bone_interpolation _ _ _)

pub returns : goal.returns
returns c = cut_named c.bone_interpolation_part.ensures (field_cuts bone_interpolation _ _ _) _ c.cut.ensures
