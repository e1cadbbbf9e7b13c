-- `vmd_check_records::property_count` meets its contract. Assumes nothing.
use mathlib.Core.Path.{◌∙◌}
use Rattle.vmd_format.specs.Parts.{properties_of}
use Rattle.vmd_check_records.proofs.Properties.{counted_says}
use Rattle.vmd_check_records.proofs.property_count.Goals as goal

pub returns : goal.returns
unfolding properties_of
returns c = c.unwrap_or.ensures ∙ (counted_says _ _ c.count_frames.ensures).1
