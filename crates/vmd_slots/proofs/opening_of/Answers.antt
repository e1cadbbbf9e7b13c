-- `vmd_slots::opening_of` meets its contract. Assumes nothing.
use mathlib.Core.Path.{refl}
use Rattle.vmd_slots.specs.Meaning.{extent_at, scan_at}
use Rattle.vmd_slots.proofs.opening_of.Goals as goal

pub returns : goal.returns
unfolding scan_at extent_at
returns c = refl
