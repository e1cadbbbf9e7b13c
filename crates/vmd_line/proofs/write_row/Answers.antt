use Prim.Native.Nat.{◌+◌, ◌*◌, ◌-◌, ◌≤◌}
use mathlib.Core.Path.{◌≡◌}
use native.Mathlib.Omega.{arith}
use Rattle.vmd_bytes.proofs.Laws.{part_zero}
use Rattle.vmd_line.specs.Line.{spaced}
use Rattle.vmd_text.proofs.Laws.{wrote_none}
use Rattle.vmd_line.proofs.Laws.{row_turn, row_done}
use Rattle.vmd_line.proofs.write_row.Goals as goal

pub loop-i-init : goal.loop-i-init
unfolding spaced
loop-i-init c = (omega (arith, c.write_decimal-at.ensures.upper_bound), rw part_zero (wrote_none _ _))

pub loop-i-preserved : goal.loop-i-preserved
loop-i-preserved c =
    let w = c.write_decimal-at-in-loop-i in
    let e : w.result + 1 ≤ 21 * (c.loop-i.i + 1) = omega (arith, w.ensures.upper_bound) in
    (e, row_turn _ _ _ _ _ _ _ _ (omega arith) (omega arith) c.loop-i.invariant.1 (omega arith) w.ensures.wrote (omega arith))

pub returns : goal.returns
returns c =
    let i : c.loop-i.i - 1 ≡ 9 = omega arith in
    row_done _ _ _ _ _ _ (omega arith) c.write_decimal-at.ensures.wrote (rw i at c.loop-i.invariant.1) (omega arith)
