-- `vmd_tables::list_leaders` meets its contract. Assumes nothing.
use Prim.Native.Nat.{◌<◌}
use mathlib.Core.Path.{refl, ◌∙◌}
use native.Mathlib.Omega.{arith}
use lib.ListN.{length}
use Rattle.vmd_tables.proofs.Leaders.{beyond_same, beyond_set, leads_start, lists_start, leads_turn, lists_turn}
use Rattle.vmd_tables.proofs.list_leaders.Goals as goal

pub loop-i-init : goal.loop-i-init
loop-i-init c =
    let a = c.args in (
      leads_start a.leads.now,
      lists_start a.leads.now a.list.now,
      beyond_same a.rows.count a.leads.now,
      beyond_same a.rows.count a.list.now,
      refl,
    )

pub loop-i-preserved : goal.loop-i-preserved
loop-i-preserved c =
    let v = c.loop-i.invariant in
    let e = c.earlier_record-e.ensures in
    let h : c.loop-i.i < length c.loop-i.leads = omega (arith, v.2.long) in
    let k : c.loop-i.m < length c.loop-i.list = omega (arith, v.3.long, v.1.few) in (
      leads_turn v.0 v.1 h k e.0 e.1,
      rw c.next_if-m.ensures (lists_turn v.0 v.1 h k e.0 e.1),
      beyond_set v.2 c.loop-i.i c.earlier_record-e.result (omega arith),
      beyond_set v.3 c.loop-i.m c.loop-i.i (omega (arith, v.1.few)),
      c.earlier_record-e.auto.cache ∙ v.4,
    )
