-- `vmd_bytes::canonical_flag` meets its contract. Assumes nothing.
use Rattle.std.proofs.Common.{◌∙◌}
use Rattle.vmd_format.specs.Bytes.{is_set}
use Rattle.vmd_bytes.proofs.Laws.{flag_number}
use Rattle.vmd_bytes.proofs.canonical_flag.Goals as goal

pub returns : goal.returns
unfolding is_set
returns c = c.from.ensures ∙ flag_number _
