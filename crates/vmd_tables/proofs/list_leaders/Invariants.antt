-- `vmd_tables::list_leaders` meets its contract. Assumes nothing.
use mathlib.Core.Path.{◌≡◌}
use lib.ListN.{length}
use Rattle.vmd_keys.specs.Rowed.{row_key}
use Rattle.vmd_tables.specs.Leading.{Leads, Lists, Beyond}
use Rattle.vmd_tables.proofs.list_leaders.Given as goal

abbrev pub invariant-loop-i : goal.invariant-loop-i
invariant-loop-i l = Leads (row_key l.rows) l.i l.leads × Lists (row_key l.rows) l.i l.m l.leads l.list × Beyond l.rows.count l.initial.leads l.leads × Beyond l.rows.count l.initial.list l.list × (length l.cache ≡ length l.initial.cache)
