-- `vmd_places::cut` meets its contract. Assumes nothing.
use Rattle.vmd_places.proofs.Parts.{range_is}
use Rattle.vmd_places.proofs.cut.Goals as goal

pub returns : goal.returns
returns c = let a = c.args in range_is a.file.now a.part.at a.part.len
