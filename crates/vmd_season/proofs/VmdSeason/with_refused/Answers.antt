-- `vmd_season::VmdSeason::with_refused` meets its contract. Assumes nothing.
use Rattle.vmd_season.specs.Season.{with_refused, largest_figure}
use Rattle.vmd_season.proofs.VmdSeason.with_refused.Goals as goal

pub returns : goal.returns
unfolding with_refused largest_figure
returns c = rw c.saturating_add.ensures
