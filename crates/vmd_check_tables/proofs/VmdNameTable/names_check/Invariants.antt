-- `vmd_check_tables::VmdNameTable::names_check` meets its contract. Assumes nothing.
use Rattle.vmd_format.specs.Parts.{name_check}
use Rattle.vmd_check_tables.proofs.Tables.{Naming}
use Rattle.vmd_check_tables.proofs.VmdNameTable.names_check.Given as goal

abbrev pub invariant-loop-end : goal.invariant-loop-end
invariant-loop-end l = Naming (name_check l.width) l.self.bytes.now l.self.ends.now l.at l.end-index
