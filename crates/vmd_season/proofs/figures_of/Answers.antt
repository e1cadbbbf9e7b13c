-- `vmd_season::figures_of` meets its contract. Assumes nothing.
use Rattle.vmd_season.proofs.Laws.{figures_found}
use Rattle.vmd_season.proofs.figures_of.Goals as goal

pub returns : goal.returns
returns c =
    rw c.counts.ensures (figures_found _ _ c.args.take.now.scanned c.count_tracks-bone_names.ensures c.count_tracks-morph_names.ensures)
