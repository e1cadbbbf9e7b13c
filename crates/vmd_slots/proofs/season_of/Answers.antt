-- `vmd_slots::season_of` meets its contract. Assumes nothing.
use mathlib.Core.Path.{refl}
use Rattle.vmd_slots.specs.Meaning.{section_at, season_at}
use Rattle.vmd_slots.proofs.season_of.Goals as goal

pub returns : goal.returns
unfolding season_at section_at
returns c = refl
