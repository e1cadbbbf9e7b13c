use Rattle.std.proofs.Common.{◌≡◌, refl, ◌∙◌, ap, arith, length, length-set}
use native.Mathlib.Nat.{zero-add}
use Rattle.vmd_bytes.specs.Slices.{splice, run}
use Rattle.vmd_bytes.proofs.Laws.{splice_nil, part_zero, copy_turn, run_all}
use Rattle.vmd_bytes.proofs.put_bytes.Goals as goal

pub loop-k-init : goal.loop-k-init
loop-k-init g c = (refl, rw (part_zero, splice_nil))

pub loop-k-preserved : goal.loop-k-preserved
loop-k-preserved g c =
    let s = c.args in
    let turn = rw zero-add at (copy_turn s.bytes s.out.now 0 s.at c.loop-k.k (omega arith) (omega arith)) in
    (simp length-set (omega arith), rw c.loop-k.invariant.1 turn)

pub returns : goal.returns
returns g c =
    let s = c.args in
    let e : c.loop-k.k ≡ length s.bytes = omega arith in
    c.loop-k.invariant.1 ∙ ap (splice s.out.now s.at) (ap (run s.bytes 0) e ∙ run_all s.bytes)
