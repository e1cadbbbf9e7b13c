-- `vmd_c::vmd_season_mean` meets its contract. Assumes nothing.
use mathlib.Core.Path.{ap, ◌∙◌}
use Rattle.vmd_season.specs.Season.{mean}
use Rattle.vmd_c.specs.Seasons.{mean_without}
use Rattle.vmd_slots.specs.Meaning.{mean_words}
use Rattle.vmd_c.proofs.vmd_season_mean.Goals as goal

pub returns : goal.returns
unfolding mean_words
returns c =
    c.slot.ensures ∙ ap mean_words (c.mean-m.ensures ∙ ap mean c.season_of.ensures ∙ mean_without _ _)
