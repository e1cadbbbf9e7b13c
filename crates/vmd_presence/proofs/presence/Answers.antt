-- `vmd_presence::presence` meets its contract: the test of the whole table is computed. Assumes nothing.
use mathlib.Core.Path.{refl}
use Rattle.vmd_format.specs.Characters.{between, runs, in_runs, in_index}
use Rattle.vmd_presence.proofs.Table.{right}
use Rattle.vmd_presence.proofs.presence.Goals as goal

pub invariant_of-result : goal.invariant_of-result
unfolding between runs in_runs in_index
invariant_of-result c = record { right = right refl tt }
