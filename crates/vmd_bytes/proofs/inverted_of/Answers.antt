-- `vmd_bytes::inverted_of` meets its contract. Assumes nothing.
use Rattle.std.proofs.Common.{refl}
use Rattle.vmd_format.specs.Bytes.{is_zero}
use Rattle.vmd_bytes.proofs.inverted_of.Goals as goal

pub returns : goal.returns
unfolding is_zero
returns c = refl
