-- `vmd_places::file_part` meets its contract. Assumes nothing.
use Rattle.vmd_places.proofs.Parts.{part_none, part_some}
use Rattle.vmd_places.proofs.file_part.Goals as goal

pub returns-then-n-eq0 : goal.returns-then-n-eq0
returns-then-n-eq0 c = part_none _ _ c.if-n-eq0.true

pub returns : goal.returns
returns c = part_some _ _ c.if-n-eq0.false
