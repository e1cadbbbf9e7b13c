-- `vmd_kept::count_ik_states` meets its contract. Assumes nothing.
use native.Mathlib.Omega.{arith}
use lib.Seq.{take_all}
use Rattle.vmd_laws.specs.BytesLaws.{Bytes}
use Rattle.vmd_kept.proofs.Totals.{weigh_start, weigh_turn}
use Rattle.vmd_kept.proofs.count_ik_states.Goals as goal

pub loop-x-init : goal.loop-x-init
loop-x-init c = (weigh_start c.args.s.now c.args.places.now, omega arith)

pub overflow_add-sum : goal.overflow_add-sum
overflow_add-sum c =
    let a = c.args in
    let l = c.loop-x in
    let bs : Bytes a.s.now = λ i. omega (arith, c.type_inv.s i) in
    omega (arith, (weigh_turn a.s.now a.places.now l.x-index l.sum _ bs (omega arith) l.invariant c.number_there.ensures).1)

pub loop-x-preserved : goal.loop-x-preserved
loop-x-preserved c =
    let a = c.args in
    let l = c.loop-x in
    let bs : Bytes a.s.now = λ i. omega (arith, c.type_inv.s i) in
    weigh_turn a.s.now a.places.now l.x-index l.sum _ bs (omega arith) l.invariant c.number_there.ensures

pub returns : goal.returns
returns c = rw (take_all c.loop-x.x-index c.args.places.now (omega arith)) at c.loop-x.invariant.0
