-- `vmd_line::write_row` meets its contract. The invariant: the numbers before i are written, each but the first after a space.
-- Assumes nothing.
use Prim.Native.Nat.{◌+◌, ◌*◌, ◌-◌, ◌≤◌}
use Rattle.vmd_bytes.specs.Slices.{run}
use Rattle.vmd_bytes.specs.Written.{Wrote}
use Rattle.vmd_line.specs.Line.{spaced}
use Rattle.vmd_line.proofs.write_row.Given as goal

abbrev pub invariant-loop-i : goal.invariant-loop-i
invariant-loop-i l = (l.at + 1 ≤ 21 * l.i) × Wrote l.initial.out l.initial.at (spaced (run l.numbers 1 (l.i - 1))) l.out l.at
