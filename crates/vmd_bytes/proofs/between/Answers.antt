-- `vmd_bytes::between` meets its contract. Assumes nothing.
use Rattle.std.proofs.Common.{le-leb}
use borrow.Author.Tests.{lt-leb}
use Rattle.vmd_format.specs.Characters.{between}
use Rattle.vmd_bytes.proofs.between.Goals as goal

pub returns-then-low-b : goal.returns-then-low-b
unfolding between
returns-then-low-b c = rw (le-leb c.args.low c.args.b c.if-low-b.true)

pub returns-else-low-b : goal.returns-else-low-b
unfolding between
returns-else-low-b c = rw (lt-leb c.args.low c.args.b c.if-low-b.false)
