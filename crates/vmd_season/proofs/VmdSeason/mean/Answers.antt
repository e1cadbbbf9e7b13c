-- `vmd_season::VmdSeason::mean` meets its contract. Assumes nothing.
use borrow.Author.Tests.{ne_eqb}
use Rattle.vmd_season.specs.Season.{mean, mean_if}
use Rattle.vmd_season.proofs.VmdSeason.mean.Goals as goal

pub returns-then-takes-eq0 : goal.returns-then-takes-eq0
unfolding mean mean_if
returns-then-takes-eq0 c = rw c.if-takes-eq0.true

pub returns : goal.returns
unfolding mean mean_if
returns c = rw (ne_eqb _ 0 c.if-takes-eq0.false)
