-- `vmd_reader::ik_name` meets its contract. Assumes nothing.
use Rattle.vmd_places.proofs.Parts.{cut_inside, cut_named}
use Rattle.vmd_places.proofs.Fields.{ik_name_cuts}
use Rattle.vmd_reader.proofs.ik_name.Goals as goal

pub cut-requires : goal.cut-requires
cut-requires c = cut_inside c.ik_name_part.ensures (ik_name_cuts _ _ _ _ _)

pub returns : goal.returns
returns c = cut_named c.ik_name_part.ensures (ik_name_cuts _ _ _ _ _) _ c.cut.ensures
