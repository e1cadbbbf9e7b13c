-- `vmd_names::is_single` meets its contract. Assumes nothing.
use borrow.Author.Tests.{le-leb, lt-leb}
use Rattle.vmd_format.specs.Names.{single}
use Rattle.vmd_names.proofs.is_single.Goals as goal

pub returns-then-b-le128 : goal.returns-then-b-le128
unfolding single
returns-then-b-le128 c = rw (le-leb c.args.b 128 c.if-b-le128.true)

pub returns-else-b-le128 : goal.returns-else-b-le128
unfolding single
returns-else-b-le128 c = rw (lt-leb c.args.b 128 c.if-b-le128.false) c.between.ensures
