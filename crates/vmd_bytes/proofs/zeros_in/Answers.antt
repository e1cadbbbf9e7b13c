-- `vmd_bytes::zeros_in` meets its contract. Assumes nothing.
use Rattle.std.proofs.Common.{refl, arith}
use lib.Bits.{and_le_r}
use Rattle.vmd_bytes.specs.Words.{zeros, repeated}
use Rattle.vmd_bytes.proofs.zeros_in.Goals as goal

pub overflow_add-result : goal.overflow_add-result
overflow_add-result c = omega (arith, and_le_r c.args.x 9187201950435737471)

pub returns : goal.returns
unfolding zeros repeated
returns c = refl
