-- `vmd_reader::morph_name_part` meets its contract. Assumes nothing.
use Rattle.vmd_places.proofs.Fields.{morph_name, field_there}
use Rattle.vmd_reader.proofs.morph_name_part.Goals as goal

pub returns : goal.returns
returns c = rw (field_there morph_name _ _ _) c.name_part.ensures
