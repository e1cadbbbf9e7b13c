-- `vmd_bytes::float_to_bits` meets its contract. Assumes nothing.
use Rattle.vmd_bytes.proofs.Floats.{finite_no_nan}
use Rattle.vmd_bytes.proofs.float_to_bits.Goals as goal

pub float_to_bits-result : goal.float_to_bits-result
float_to_bits-result c = finite_no_nan c.args.x c.requires
