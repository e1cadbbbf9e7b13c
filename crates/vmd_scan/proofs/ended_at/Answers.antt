-- `vmd_scan::ended_at` meets its contract. Assumes nothing.
use borrow.Author.Tests.{le-leb, lt-leb}
use Rattle.vmd_laws.specs.Places.{over_if}
use Rattle.vmd_scan.proofs.ended_at.Goals as goal

pub returns-then-file-next : goal.returns-then-file-next
unfolding over_if
returns-then-file-next c = rw (le-leb _ _ c.if-file-next.true)

pub returns-in-None : goal.returns-in-None
unfolding over_if
returns-in-None c = rw (lt-leb _ _ c.if-file-next.false, c.in-None.is)

pub returns-in-Some : goal.returns-in-Some
unfolding over_if
returns-in-Some c = rw (lt-leb _ _ c.if-file-next.false, c.in-Some.is)
