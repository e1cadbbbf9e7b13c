-- `vmd_count::weigh` meets its contract. Assumes nothing.
use native.Mathlib.Omega.{arith}
use lib.Seq.{get_or-take, length-take-le}
use Rattle.vmd_count.proofs.Counts.{sum_turn, sum_start}
use Rattle.vmd_count.proofs.weigh.Goals as goal

pub loop-x-init : goal.loop-x-init
loop-x-init c =
    let r = c.args.rows in (sum_start r.cut r.file.now r.place r.size r.count c.args.a.now, omega arith)

pub loop-x-preserved : goal.loop-x-preserved
loop-x-preserved c =
    let r = c.args.rows in
    let l = c.loop-x in
    let e = c.name_size-sum.ensures in
    let h = length-take-le c.args.k c.args.a.now c.requires.0 in
    (sum_turn r.cut r.file.now r.place r.size r.count l.x-index l.sum _ c.args.a.now l.invariant.0 (rw (get_or-take c.args.k c.args.a.now l.x-index 0 (omega (arith, h))) at e.0), omega (arith, e.1))
