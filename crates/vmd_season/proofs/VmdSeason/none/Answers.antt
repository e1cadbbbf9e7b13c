-- `vmd_season::VmdSeason::none` meets its contract. Assumes nothing.
use mathlib.Core.Path.{refl}
use Rattle.vmd_season.specs.Season.{no_takes, no_section_figures}
use Rattle.vmd_season.proofs.VmdSeason.none.Goals as goal

pub returns : goal.returns
unfolding no_takes no_section_figures
returns c = refl
