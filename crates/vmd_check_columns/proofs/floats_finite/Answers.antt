use Rattle.vmd_check_columns.proofs.Columns.{floats_start, floats_fail, floats_turn, floats_end}
use Rattle.vmd_check_columns.proofs.floats_finite.Goals as goal

pub loop-x-init : goal.loop-x-init
loop-x-init c = floats_start

pub returns-then-not-is_finite : goal.returns-then-not-is_finite
returns-then-not-is_finite c = floats_fail c.loop-x.invariant c.loop-x-test.true c.is_finite.ensures c.if-not-is_finite.true

pub loop-x-preserved : goal.loop-x-preserved
loop-x-preserved c = floats_turn c.loop-x.invariant c.loop-x-test.true c.is_finite.ensures c.if-not-is_finite.false

pub returns : goal.returns
returns c = floats_end c.loop-x.invariant c.loop-x-test.false
