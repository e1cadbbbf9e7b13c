-- `vmd_reader::bone_interpolation_part` meets its contract. Assumes nothing.
use Rattle.vmd_places.proofs.Fields.{bone_interpolation, field_there}
use Rattle.vmd_reader.proofs.bone_interpolation_part.Goals as goal

pub returns : goal.returns
returns c = rw (field_there bone_interpolation _ _ _) c.bytes_part.ensures
