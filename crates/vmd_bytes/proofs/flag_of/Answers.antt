-- `vmd_bytes::flag_of` meets its contract. Assumes nothing.
use Rattle.std.proofs.Common.{refl}
use Rattle.vmd_format.specs.Bytes.{is_set}
use Rattle.vmd_bytes.proofs.flag_of.Goals as goal

pub returns : goal.returns
unfolding is_set
returns c = refl
