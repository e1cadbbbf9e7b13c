-- `vmd_export::sums_fit` meets its contract. Assumes nothing.
use mathlib.Core.Path.{◌∙◌}
use Rattle.vmd_export.specs.Together.{sums_fit}
use Rattle.vmd_export.proofs.sums_fit.Goals as goal

pub returns : goal.returns
unfolding sums_fit
returns c =
    c.also_fits.ensures
    ∙ rw (
      c.also_fits-five.ensures,
      c.also_fits-four.ensures,
      c.also_fits-three.ensures,
      c.also_fits-two.ensures,
      c.also_fits-one.ensures,
    )
