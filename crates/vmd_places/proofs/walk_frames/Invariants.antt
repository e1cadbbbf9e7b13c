-- `vmd_places::walk_frames` meets its contract. The invariant: the walk over what is left, from here, is the whole walk.
-- Assumes nothing.
use Prim.Native.Nat.{◌-◌}
use mathlib.Core.Path.{◌≡◌}
use Rattle.vmd_format.specs.Fetch.{walk_frames}
use Rattle.vmd_places.proofs.walk_frames.Given as goal

abbrev pub invariant-loop : goal.invariant-loop
invariant-loop l = walk_frames l.file (l.n - l.counter) l.at ≡ walk_frames l.file l.n l.place
