-- `vmd_tidy_sections::run_length` meets its contract. Assumes nothing.
use Prim.Native.Nat.{◌≤◌}
use lib.ListN.{length}
use Rattle.vmd_sort.specs.Walk.{step, width}
use Rattle.vmd_tidy_sections.specs.RunLaws.{Run}
use Rattle.vmd_tidy_sections.proofs.run_length.Given as goal

abbrev pub invariant-loop-n : goal.invariant-loop-n
invariant-loop-n l = Run (step l.s (width l.stride)) l.places l.i l.n l.next × (l.next ≤ length l.s)
