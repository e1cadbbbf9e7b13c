-- `vmd_tables::number_records` meets its contract. Assumes nothing.
use Rattle.vmd_tables.specs.Leading.{Numbered}
use Rattle.vmd_tables.proofs.number_records.Given as goal

abbrev pub invariant-loop-i : goal.invariant-loop-i
invariant-loop-i l = Numbered l.rows.file.now l.rows.place l.rows.size l.i l.table.names l.table.bytes l.initial.bytes l.bytes l.initial.ends l.ends l.initial.indices l.indices
