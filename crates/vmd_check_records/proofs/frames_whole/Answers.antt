-- `vmd_check_records::frames_whole` meets its contract. Assumes nothing.
use mathlib.Core.Path.{◌∙◌}
use Rattle.vmd_check_records.proofs.Properties.{counted_says}
use Rattle.vmd_check_records.proofs.frames_whole.Goals as goal

pub returns : goal.returns
returns c = c.is_some.ensures ∙ (counted_says _ _ c.count_frames.ensures).0
