-- `vmd_season::VmdSeason::add` meets its contract. Assumes nothing.
use mathlib.Core.Path.{sym, ◌∙◌}
use Rattle.vmd_season.proofs.Laws.{file_refused, file_taken}
use Rattle.vmd_season.proofs.VmdSeason.add.Goals as goal

pub returns-in-Ok : goal.returns-in-Ok
returns-in-Ok c =
    let t = c.in-Ok.ensures in
    c.taken_if_it_fits.ensures ∙ file_taken _ _ _ (sym t.found) (rw t.same at c.figures_of.ensures)

pub returns-in-Err : goal.returns-in-Err
returns-in-Err c = c.with_refused.ensures ∙ file_refused _ _ _ (sym c.in-Err.ensures.found)
