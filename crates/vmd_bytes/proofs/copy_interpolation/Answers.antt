use Rattle.std.proofs.Common.{◌≡◌, ◌+◌, ◌*◌, refl, ◌∙◌, arith}
use Rattle.vmd_bytes.proofs.Laws.{splice_nil, part_zero, copied_on}
use Rattle.vmd_bytes.proofs.copy_interpolation.Goals as goal

pub loop-k-init : goal.loop-k-init
loop-k-init c = (refl, rw (part_zero, splice_nil))

pub loop-k-preserved : goal.loop-k-preserved
loop-k-preserved c =
    let a = c.args in
    let i = 8 * c.loop-k.k in
    let e : 8 * (c.loop-k.k + 1) ≡ i + 8 = omega arith in (
      omega (arith, c.copy_word.auto.out),
      rw e (c.copy_word.ensures ∙ rw c.loop-k.invariant.1 (copied_on a.src.now a.out.now a.at a.to i 8 (omega arith) (omega arith))),
    )
