-- `vmd_kept::Keyed::count` meets its contract. Assumes nothing.
use lib.ListN.{length}
use Rattle.vmd_keys.specs.Names.{select}
use Rattle.vmd_tracks.specs.Tracks.{lasts}
use Rattle.vmd_count.specs.Rowed.{bound}
use Rattle.vmd_sort.specs.Walk.{states_there}
use Rattle.vmd_kept.specs.Keyed.{kept_key, kept_places}
use Rattle.vmd_kept.specs.Window.{above}
use Rattle.vmd_kept.proofs.Passes.{Counted}
use Rattle.vmd_kept.proofs.Keyed.count.Given as goal

abbrev pub invariant-loop-held : goal.invariant-loop-held
invariant-loop-held l = Counted (kept_key l.self) (states_there l.self.run.file.now) (kept_places l.self) (bound l.floor) l.records l.ik_states

abbrev pub decreases-loop-held : goal.decreases-loop-held
decreases-loop-held l = length (select (above (kept_key l.self) (bound l.floor)) (lasts (kept_key l.self) (kept_places l.self)))
