-- `vmd_bytes::write_u32_le` meets its contract. Assumes nothing.
use Rattle.std.proofs.Common.{◌∙◌}
use Rattle.vmd_format.specs.Bytes.{u32_bytes}
use Rattle.vmd_bytes.proofs.write_u32_le.Goals as goal

pub returns : goal.returns
unfolding u32_bytes
returns c = c.put_bytes.ensures ∙ rw c.to_le_bytes.ensures
