-- `vmd_count::keep_firsts` meets its contract. Assumes nothing.
use native.Mathlib.Omega.{arith}
use Rattle.vmd_count.proofs.HeldLaws.{firsts_start, firsts_turn}
use Rattle.vmd_count.proofs.keep_firsts.Goals as goal

pub loop-k-init : goal.loop-k-init
loop-k-init c = firsts_start _ _

pub loop-k-preserved : goal.loop-k-preserved
loop-k-preserved c =
    let l = c.loop-k in
    let p = c.requires in
    rw c.next_if-j.ensures (firsts_turn _ _ l.invariant (omega arith) p.0 p.1 c.is_fresh-on.ensures)
