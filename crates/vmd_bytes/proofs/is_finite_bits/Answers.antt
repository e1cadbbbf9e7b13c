-- `vmd_bytes::is_finite_bits` meets its contract. Assumes nothing.
use Rattle.vmd_bytes.proofs.Floats.{finite_below}
use Rattle.vmd_bytes.proofs.is_finite_bits.Goals as goal

pub returns : goal.returns
returns c = finite_below c.args.bits
