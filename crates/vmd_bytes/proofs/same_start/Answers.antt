-- `vmd_bytes::same_start` meets its contract. Assumes nothing.
use Rattle.std.proofs.Common.{◌∙◌}
use Rattle.vmd_bytes.proofs.Laws.{same_pointwise}
use Rattle.vmd_bytes.proofs.same_start.Goals as goal

pub returns : goal.returns
returns c = c.eq.ensures ∙ same_pointwise _ _
