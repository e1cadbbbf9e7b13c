-- `vmd_count::weigh` meets its contract. Assumes nothing.
use mathlib.Core.Path.{◌≡◌}
use Prim.Native.Nat.{◌*◌, ◌≤◌}
use Rattle.vmd_count.specs.Held.{sum_of}
use Rattle.vmd_count.specs.Rowed.{row_length}
use Rattle.vmd_count.proofs.weigh.Given as goal

abbrev pub invariant-loop-x : goal.invariant-loop-x
invariant-loop-x l = (l.sum ≡ sum_of (row_length l.rows) l.x-index l.a) × (l.sum ≤ 15 * l.x-index)
