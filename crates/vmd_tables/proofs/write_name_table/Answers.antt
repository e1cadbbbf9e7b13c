-- `vmd_tables::write_name_table` meets its contract. Assumes nothing.
use native.Mathlib.Omega.{arith}
use Rattle.vmd_keys.specs.HeapLaws.{swaps_length}
use Rattle.vmd_tables.proofs.Numbering.{numbered_start, numbered_end, numbered_over}
use Rattle.vmd_tables.proofs.Leaders.{beyond_same, beyond_then, beyond_swaps, lists_swaps}
use Rattle.vmd_tables.proofs.write_name_table.Goals as goal

pub returns-then-n-eq0 : goal.returns-then-n-eq0
returns-then-n-eq0 c =
    let a = c.args in
    record { numbered = numbered_end (omega arith) (omega arith) (numbered_start a.s.now a.at a.size a.bytes.now a.ends.now a.indices.now); beyond = beyond_same a.n a.work.now }

pub settle_leaders-requires : goal.settle_leaders-requires
settle_leaders-requires c =
    let l = c.list_leaders-m.ensures in
    let o = c.sort_records.ensures in (
      omega (arith, l.beyond.0.long),
      omega (arith, l.leads.1.few, l.beyond.1.long, swaps_length o.2),
      l.leads.0,
      lists_swaps o.2 l.leads.1,
      o.0,
    )

pub number_records-requires : goal.number_records-requires
number_records-requires c =
    let p = c.requires in
    let l = c.list_leaders-m.ensures in
    let o = c.sort_records.ensures in
    let t = c.settle_leaders.ensures in record {
      led = (omega (arith, l.beyond.1.long, swaps_length o.2), omega (arith, l.beyond.0.long, t.1.long), t.0);
      room = p.n_in_bounds_2;
    }

pub returns : goal.returns
returns c =
    let l = c.list_leaders-m.ensures in
    let t = c.settle_leaders.ensures in
    record { numbered = numbered_over (beyond_then l.beyond.1 (beyond_swaps l.leads.1.few c.sort_records.ensures.2)) c.number_records.ensures; beyond = beyond_then l.beyond.0 t.1 }
