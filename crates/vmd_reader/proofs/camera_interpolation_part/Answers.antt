-- `vmd_reader::camera_interpolation_part` meets its contract. Assumes nothing.
use Rattle.vmd_places.proofs.Fields.{camera_interpolation, field_there}
use Rattle.vmd_reader.proofs.camera_interpolation_part.Goals as goal

pub returns : goal.returns
returns c = rw (field_there camera_interpolation _ _ _) c.bytes_part.ensures
