-- `vmd_reader::morph_name` meets its contract. Assumes nothing.
use Rattle.vmd_places.proofs.Parts.{cut_inside, cut_named}
use Rattle.vmd_places.proofs.Fields.{morph_name, field_cuts}
use Rattle.vmd_reader.proofs.morph_name.Goals as goal

pub cut-requires : goal.cut-requires
cut-requires c = cut_inside c.morph_name_part.ensures (field_cuts morph_name _ _ _)

pub returns : goal.returns
returns c = cut_named c.morph_name_part.ensures (field_cuts morph_name _ _ _) _ c.cut.ensures
