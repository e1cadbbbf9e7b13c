-- `vmd_kept::Keyed::pass` meets its contract. Assumes nothing.
use mathlib.Core.Path.{◌≡◌}
use Prim.Native.Nat.{◌<◌}
use lib.ListN.{take}
use Rattle.vmd_count.specs.Rowed.{bound}
use Rattle.vmd_sort.specs.Walk.{step, width, places_by, end_by}
use Rattle.vmd_kept.specs.Keyed.{kept_key}
use Rattle.vmd_kept.specs.Window.{Holds}
use Rattle.vmd_kept.proofs.Keyed.pass.Given as goal

abbrev pub invariant-loop-i : goal.invariant-loop-i
invariant-loop-i l = (l.held.m < 32768) × (l.p ≡ end_by (step l.self.run.file.now (width l.self.run.stride)) l._i l.self.run.place)
    × Holds (kept_key l.self) (bound l.floor) (bound l.held.ceil) l.p (take l.held.m l.a) (places_by (step l.self.run.file.now (width l.self.run.stride)) l._i l.self.run.place)
