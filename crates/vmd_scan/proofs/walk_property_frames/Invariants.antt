-- `vmd_scan::walk_property_frames` meets its contract. The invariant: the walk over what is left, from here and with the IK
-- states so far, is the whole walk. Assumes nothing.
use Prim.Native.Nat.{◌*◌, ◌-◌, ◌≤◌}
use mathlib.Core.Path.{◌≡◌}
use lib.ListN.{length}
use Rattle.vmd_laws.specs.Places.{walk}
use Rattle.vmd_scan.proofs.walk_property_frames.Given as goal

abbrev pub invariant-loop : goal.invariant-loop
invariant-loop l = record {
  inside : l.at ≤ length l.file;
  states : l.ik_states * 21 ≤ l.at;
  walked : walk l.file (l.n - l.counter) l.at l.ik_states ≡ walk l.file l.n l.place 0;
}
