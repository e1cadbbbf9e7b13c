use Rattle.vmd_format.specs.Parts.{table_right}
use Rattle.vmd_check_tables.proofs.Tables.{ending_start, ending_fails, ending_turn, ending_end}
use Rattle.vmd_check_tables.proofs.VmdNameTable.is_right.Goals as goal

pub loop-end-init : goal.loop-end-init
loop-end-init c = ending_start

pub returns-then-end-at : goal.returns-then-end-at
unfolding table_right
returns-then-end-at c = ending_fails c.loop-end.invariant c.loop-end-test.true c.if-end-at.true

pub loop-end-preserved : goal.loop-end-preserved
loop-end-preserved c = ending_turn c.loop-end.invariant c.loop-end-test.true c.if-end-at.false

pub returns : goal.returns
unfolding table_right
returns c = ending_end c.loop-end.invariant c.loop-end-test.false
