-- `vmd_season::count_tracks` meets its contract. Assumes nothing.
use Rattle.vmd_season.proofs.count_tracks.Goals as goal

pub returns : goal.returns
returns c = c.count_names.ensures.0
