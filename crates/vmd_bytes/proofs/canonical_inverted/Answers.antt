-- `vmd_bytes::canonical_inverted` meets its contract. Assumes nothing.
use Rattle.std.proofs.Common.{◌∙◌}
use Rattle.vmd_format.specs.Bytes.{is_zero}
use Rattle.vmd_bytes.proofs.Laws.{inverted_number}
use Rattle.vmd_bytes.proofs.canonical_inverted.Goals as goal

pub returns : goal.returns
unfolding is_zero
returns c = c.from.ensures ∙ inverted_number _
