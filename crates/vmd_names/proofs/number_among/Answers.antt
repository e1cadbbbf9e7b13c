-- `vmd_names::number_among` meets its contract. Assumes nothing.
use native.Mathlib.Omega.{arith}
use Rattle.vmd_names.proofs.Names.{between_holds, in_lower, in_upper}
use Rattle.vmd_names.proofs.number_among.Goals as goal

pub overflow_sub-result : goal.overflow_sub-result
overflow_sub-result c = (between_holds _ _ _ c.between.ensures c.if-between.true).0

pub overflow_sub-result-then-between-2 : goal.overflow_sub-result-then-between-2
overflow_sub-result-then-between-2 c =
    omega (arith, between_holds _ _ _ c.between-else-between.ensures c.if-between-2.true)

pub returns-then-between : goal.returns-then-between
returns-then-between c = in_lower _ _ _ _ _ _ c.between.ensures c.requires.0 c.if-between.true

pub returns-then-between-2 : goal.returns-then-between-2
returns-then-between-2 c =
    in_upper _ _ _ _ _ _ c.between.ensures c.between-else-between.ensures c.if-between.false c.if-between-2.true
