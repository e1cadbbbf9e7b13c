-- `vmd_count::pass` meets its contract. Assumes nothing.
use mathlib.Core.Path.{◌≡◌}
use Prim.Native.Nat.{◌<◌}
use lib.ListN.{length}
use Rattle.vmd_keys.specs.Rowed.{row_key}
use Rattle.vmd_count.specs.Held.{Holds}
use Rattle.vmd_count.specs.Rowed.{bound}
use Rattle.vmd_count.proofs.pass.Given as goal

abbrev pub invariant-loop-i : goal.invariant-loop-i
invariant-loop-i l = (l.held.m < 32768) × (length l.cache ≡ length l.initial.cache) × Holds (row_key l.rows) (bound l.floor) (bound l.held.ceil) l.i l.held.m l.a
