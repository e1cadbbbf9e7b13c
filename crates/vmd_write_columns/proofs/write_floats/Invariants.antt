-- `vmd_write_columns::write_floats` meets its contract. Assumes nothing.
use Rattle.vmd_write_columns.proofs.Writing.{Pouring}
use Rattle.vmd_write_columns.proofs.write_floats.Given as goal

abbrev pub invariant-loop-i : goal.invariant-loop-i
invariant-loop-i l = Pouring l.xs l.initial.out l.to l.out l.i
