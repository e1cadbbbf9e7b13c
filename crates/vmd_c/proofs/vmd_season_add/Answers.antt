-- `vmd_c::vmd_season_add` meets its contract. Assumes nothing.
use mathlib.Core.Path.{ap, ◌∙◌}
use Rattle.vmd_season.specs.Season.{with_file}
use Rattle.vmd_format.specs.Read.{lenient}
use Rattle.vmd_slots.specs.Meaning.{season_counts, season_figures}
use Rattle.vmd_c.proofs.vmd_season_add.Goals as goal

pub returns : goal.returns
returns c =
    let e = c.add-next.ensures ∙ ap (λ z. with_file lenient z c.args.file.now) c.season_of.ensures in
    (c.report_season.ensures.0 ∙ ap season_counts e, c.report_season.ensures.1 ∙ ap season_figures e)
