-- `vmd_check_columns::is_times` meets its contract. Assumes nothing.
use Rattle.vmd_check_columns.proofs.Columns.{times_over, times_even}
use Rattle.vmd_check_columns.proofs.is_times.Goals as goal

pub returns-then-len-k-eq0 : goal.returns-then-len-k-eq0
returns-then-len-k-eq0 c = times_even _ _ _ c.requires c.if-len-k-eq0.true

pub returns-else-len-k-eq0 : goal.returns-else-len-k-eq0
returns-else-len-k-eq0 c = times_over _ _ _ c.requires c.if-len-k-eq0.false
