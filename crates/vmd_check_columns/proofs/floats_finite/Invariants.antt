-- `vmd_check_columns::floats_finite` meets its contract. Assumes nothing.
use Rattle.vmd_check_columns.proofs.Columns.{Floats}
use Rattle.vmd_check_columns.proofs.floats_finite.Given as goal

abbrev pub invariant-loop-x : goal.invariant-loop-x
invariant-loop-x l = Floats l.xs l.x-index
