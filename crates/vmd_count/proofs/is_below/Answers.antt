-- `vmd_count::is_below` meets its contract. Assumes nothing.
use mathlib.Core.Path.{refl}
use Rattle.vmd_keys.proofs.RowLaws.{row_top}
use Rattle.vmd_keys.specs.Rowed.{row_key}
use Rattle.vmd_count.proofs.HeldLaws.{below_none, below_record}
use Rattle.vmd_count.proofs.is_below.Goals as goal

pub returns-in-None : goal.returns-in-None
returns-in-None c =
    let r = c.args.rows in rw c.in-None.is (below_none (row_key r) 0 c.args.x (row_top r c.args.x) refl)

pub returns-in-Some : goal.returns-in-Some
returns-in-Some c =
    rw c.in-Some.is (below_record (row_key c.args.rows) c.in-Some.c c.args.x _ c.name_before.ensures)
