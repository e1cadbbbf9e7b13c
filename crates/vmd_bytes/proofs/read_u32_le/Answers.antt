-- `vmd_bytes::read_u32_le` meets its contract: what each byte widens to adds up to the number. Assumes nothing.
use Rattle.std.proofs.Common.{rules}
use Rattle.vmd_bytes.proofs.Laws.{u32_drop}
use Rattle.vmd_bytes.proofs.read_u32_le.Goals as goal

pub returns : goal.returns
returns c = rw u32_drop (search rules)
