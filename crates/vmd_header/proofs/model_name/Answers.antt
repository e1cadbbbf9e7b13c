-- `vmd_header::model_name` meets its contract. Assumes nothing.
use Rattle.vmd_places.proofs.Parts.{cut_inside, cut_named}
use Rattle.vmd_header.proofs.Laws.{model_cuts}
use Rattle.vmd_header.proofs.model_name.Goals as goal

pub cut-requires : goal.cut-requires
cut-requires c = cut_inside c.model_part.ensures (model_cuts _)

pub returns : goal.returns
returns c = cut_named c.model_part.ensures (model_cuts _) _ c.cut.ensures
