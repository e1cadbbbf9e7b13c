-- `vmd_season::VmdSectionFigures::with_count` meets its contract. Assumes nothing.
use mathlib.Core.Path.{sym}
use native.Mathlib.Omega.{arith}
use borrow.Author.Tests.{le-leb, lt-leb}
use Rattle.vmd_season.specs.Season.{with_count, largest_figure}
use Rattle.vmd_season.proofs.VmdSectionFigures.with_count.Goals as goal

pub returns-in_err-total-clause-fits : goal.returns-in_err-total-clause-fits
unfolding largest_figure
returns-in_err-total-clause-fits c =
    rw c.from_residual.ensures (sym (lt-leb _ _ (omega (arith, c.in_err-total.ensures))))

pub returns-then-first-clause-fits : goal.returns-then-first-clause-fits
unfolding largest_figure
returns-then-first-clause-fits c = sym (le-leb _ _ (omega (arith, c.in_ok-total.ensures.0)))

pub returns-then-first-clause-counted : goal.returns-then-first-clause-counted
unfolding with_count
returns-then-first-clause-counted c = rw (c.if-first.true, c.in_ok-total.ensures.1)

pub returns-clause-fits : goal.returns-clause-fits
unfolding largest_figure
returns-clause-fits c = sym (le-leb _ _ (omega (arith, c.in_ok-total.ensures.0)))

pub returns-clause-counted : goal.returns-clause-counted
unfolding with_count
returns-clause-counted c = rw (c.if-first.false, c.in_ok-total.ensures.1, c.min.ensures, c.max.ensures)
