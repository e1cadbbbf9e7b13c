-- `vmd_season::VmdSeason::taken_if_it_fits` meets its contract. Assumes nothing.
use mathlib.Core.Path.{sym, ◌∙◌}
use Rattle.vmd_season.specs.Season.{taken_if}
use Rattle.vmd_season.proofs.VmdSeason.taken_if_it_fits.Goals as goal

pub returns-in-Some : goal.returns-in-Some
unfolding taken_if
returns-in-Some c = rw (sym c.in-Some.ensures.fits) c.in-Some.ensures.taken

pub returns-in-None : goal.returns-in-None
unfolding taken_if
returns-in-None c = c.with_refused.ensures ∙ rw (sym c.in-None.ensures.fits)
