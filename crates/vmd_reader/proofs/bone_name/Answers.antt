-- `vmd_reader::bone_name` meets its contract. Assumes nothing.
use Rattle.vmd_places.proofs.Parts.{cut_inside, cut_named}
use Rattle.vmd_places.proofs.Fields.{bone_name, field_cuts}
use Rattle.vmd_reader.proofs.bone_name.Goals as goal

pub cut-requires : goal.cut-requires
cut-requires c = cut_inside c.bone_name_part.ensures (field_cuts bone_name _ _ _)

pub returns : goal.returns
returns c = cut_named c.bone_name_part.ensures (field_cuts bone_name _ _ _) _ c.cut.ensures
