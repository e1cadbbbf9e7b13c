-- `vmd_bytes::mask` meets its contract. Assumes nothing.
use Rattle.std.proofs.Common.{arith}
use Rattle.vmd_bytes.proofs.Words.{mask_of}
use Rattle.vmd_bytes.proofs.mask.Goals as goal

pub returns : goal.returns
returns c = rw c.from.ensures (mask_of c.args.m c.args.live (omega arith))
