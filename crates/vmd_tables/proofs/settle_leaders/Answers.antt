-- `vmd_tables::settle_leaders` meets its contract. Assumes nothing.
use Prim.Native.Nat.{◌-◌}
use native.Mathlib.Omega.{arith}
use lib.ListN.{get_or}
use Rattle.vmd_tables.proofs.Leaders.{beyond_same, beyond_set, row_ranks, settling_start, settling_turn, settling_end}
use Rattle.vmd_tables.proofs.settle_leaders.Goals as goal

pub loop-k-init : goal.loop-k-init
loop-k-init c =
    let p = c.requires in
    let r = c.args.rows in
    (settling_start (row_ranks r) r.few p.4 p.2 p.3, beyond_same r.count c.args.leads.now)

pub leader_of-e-requires : goal.leader_of-e-requires
leader_of-e-requires c =
    (omega arith, omega (arith, c.loop-k.invariant.0.lists.each (c.loop-k.k - 1) (omega arith), c.loop-k.invariant.1.long))

pub loop-k-preserved : goal.loop-k-preserved
loop-k-preserved c =
    let p = c.requires in
    let r = c.args.rows in
    let v = c.loop-k.invariant in (
      settling_turn (row_ranks r) r.few p.4 v.0 (omega arith) (omega (arith, v.1.long)) c.leader_of-e.ensures,
      beyond_set v.1 (get_or c.args.list.now c.loop-k.k 0) c.leader_of-e.result (v.0.lists.each c.loop-k.k (omega arith)),
    )

pub returns : goal.returns
returns c =
    let r = c.args.rows in
    (settling_end (row_ranks r) r.few c.requires.4 (omega arith) c.loop-k.invariant.0, c.loop-k.invariant.1)
