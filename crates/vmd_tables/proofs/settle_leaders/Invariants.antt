-- `vmd_tables::settle_leaders` meets its contract. Assumes nothing.
use Rattle.vmd_keys.specs.Rowed.{row_key}
use Rattle.vmd_tables.specs.Leading.{Settling, Beyond}
use Rattle.vmd_tables.proofs.settle_leaders.Given as goal

abbrev pub invariant-loop-k : goal.invariant-loop-k
invariant-loop-k l = Settling (row_key l.rows) l.rows.count l.m l.k l.leads l.list × Beyond l.rows.count l.initial.leads l.leads
