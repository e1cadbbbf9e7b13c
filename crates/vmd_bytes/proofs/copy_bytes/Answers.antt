use Rattle.std.proofs.Common.{refl, arith, length-set}
use Rattle.vmd_bytes.proofs.Laws.{splice_nil, part_zero, copy_turn}
use Rattle.vmd_bytes.proofs.copy_bytes.Goals as goal

pub loop-i-init : goal.loop-i-init
loop-i-init c = (refl, rw (part_zero, splice_nil))

pub loop-i-preserved : goal.loop-i-preserved
loop-i-preserved c = (simp length-set (omega arith), rw c.loop-i.invariant.1 (copy_turn _ _ _ _ _ (omega arith) (omega arith)))
