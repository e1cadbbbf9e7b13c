-- `vmd_reader::camera_interpolation` meets its contract. Assumes nothing.
use Rattle.vmd_places.proofs.Parts.{cut_inside, cut_named}
use Rattle.vmd_places.proofs.Fields.{camera_interpolation, field_cuts}
use Rattle.vmd_reader.proofs.camera_interpolation.Goals as goal

pub cut-requires : goal.cut-requires
cut-requires c = cut_inside c.camera_interpolation_part.ensures (field_cuts camera_interpolation _ _ _)

pub returns : goal.returns
returns c = cut_named c.camera_interpolation_part.ensures (field_cuts camera_interpolation _ _ _) _ c.cut.ensures
