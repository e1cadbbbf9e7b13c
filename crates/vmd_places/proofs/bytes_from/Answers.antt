-- `vmd_places::bytes_from` meets its contract. Assumes nothing.
use mathlib.Core.Path.{sym}
use Rattle.vmd_places.proofs.Places.{past_the_end, from_there}
use Rattle.vmd_places.proofs.bytes_from.Goals as goal

pub returns-then-file-at : goal.returns-then-file-at
returns-then-file-at c = sym (past_the_end _ _ c.if-file-at.true)

pub returns : goal.returns
returns c = let a = c.args in from_there a.file.now a.at
