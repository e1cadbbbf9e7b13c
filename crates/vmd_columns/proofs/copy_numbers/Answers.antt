use Rattle.std.proofs.Common.{arith}
use Rattle.vmd_columns.proofs.Going.{numbers_start, numbers_turn}
use Rattle.vmd_columns.proofs.copy_numbers.Goals as goal

pub loop-i-init : goal.loop-i-init
loop-i-init c = numbers_start _ _ _ _

pub loop-i-preserved : goal.loop-i-preserved
loop-i-preserved c = numbers_turn _ _ _ _ _ (omega arith) c.loop-i.invariant c.read_u32_le.ensures
