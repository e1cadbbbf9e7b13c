-- `vmd_check_tables::VmdNameTable::is_right` meets its contract. Assumes nothing.
use lib.ListN.{length}
use Rattle.vmd_check_tables.proofs.Tables.{Ending}
use Rattle.vmd_check_tables.proofs.VmdNameTable.is_right.Given as goal

abbrev pub invariant-loop-end : goal.invariant-loop-end
invariant-loop-end l = Ending l.self.ends.now (length l.self.bytes.now) l.at l.end-index
