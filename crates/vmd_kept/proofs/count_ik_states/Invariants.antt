-- `vmd_kept::count_ik_states` meets its contract. Assumes nothing.
use mathlib.Core.Path.{◌≡◌}
use Prim.Native.Nat.{◌*◌, ◌≤◌}
use lib.ListN.{take}
use Rattle.vmd_sort.specs.Walk.{states_there, total}
use Rattle.vmd_kept.proofs.count_ik_states.Given as goal

abbrev pub invariant-loop-x : goal.invariant-loop-x
invariant-loop-x l = (l.sum ≡ total (states_there l.s) (take l.x-index l.places)) × (l.sum ≤ l.x-index * 4294967295)
