-- `vmd_slots::report_season` meets its contract. Assumes nothing.
use mathlib.Core.Path.{refl}
use Rattle.vmd_slots.specs.Meaning.{season_counts, season_figures}
use Rattle.vmd_slots.proofs.report_season.Goals as goal

pub returns : goal.returns
unfolding season_counts season_figures
returns c = (refl, refl)
