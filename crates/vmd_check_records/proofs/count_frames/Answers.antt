use native.Mathlib.Omega.{arith}
use Rattle.vmd_check_records.proofs.Properties.{counting_start, counting_short, counting_over, counting_turn, counting_end}
use Rattle.vmd_check_records.proofs.count_frames.Goals as goal

pub loop-at-init : goal.loop-at-init
loop-at-init c = counting_start

pub returns-then-bytes-at-lt-SIZE : goal.returns-then-bytes-at-lt-SIZE
returns-then-bytes-at-lt-SIZE c = counting_short c.loop-at.invariant (omega arith) (omega arith)

pub returns-then-bytes-at : goal.returns-then-bytes-at
returns-then-bytes-at c =
    counting_over c.loop-at.invariant c.read_u32_le-count.ensures (omega arith) (omega arith)

pub overflow_add-n : goal.overflow_add-n
overflow_add-n c = omega (arith, c.loop-at.invariant.few)

pub loop-at-preserved : goal.loop-at-preserved
loop-at-preserved c =
    counting_turn c.loop-at.invariant c.read_u32_le-count.ensures (omega arith)

pub returns : goal.returns
returns c = counting_end c.loop-at.invariant (omega arith)
