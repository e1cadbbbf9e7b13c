-- `vmd_c::vmd_season_none` meets its contract. Assumes nothing.
use mathlib.Core.Path.{ap, ◌∙◌}
use Rattle.vmd_slots.specs.Meaning.{season_counts, season_figures}
use Rattle.vmd_c.proofs.vmd_season_none.Goals as goal

pub returns : goal.returns
returns c =
    (c.report_season.ensures.0 ∙ ap season_counts c.none.ensures, c.report_season.ensures.1 ∙ ap season_figures c.none.ensures)
