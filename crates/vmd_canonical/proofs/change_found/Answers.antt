-- `vmd_canonical::change_found` meets its contract. Assumes nothing.
use mathlib.Core.Path.{refl}
use native.Mathlib.Omega.{arith}
use borrow.Author.Tests.{le-leb, lt-leb}
use lib.ListN.{length}
use Rattle.vmd_form.specs.Compare.{change_at, change_over}
use Rattle.vmd_canonical.proofs.change_found.Goals as goal

pub returns-in-Err : goal.returns-in-Err
unfolding change_at
returns-in-Err c = rw c.in-Err.is refl

pub returns-in-Ok : goal.returns-in-Ok
unfolding change_at change_over
returns-in-Ok c = rw (c.in-Ok.is, lt-leb (length c.args.file.now) c.in-Ok.end (omega arith)) refl

pub returns-in-Ok-2 : goal.returns-in-Ok-2
unfolding change_at change_over
returns-in-Ok-2 c = rw (c.in-Ok.is, le-leb (length c.args.file.now) c.in-Ok.end (omega arith)) refl
