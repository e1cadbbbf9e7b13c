-- `vmd_columns::copy_numbers` meets its contract. Assumes nothing.
use Rattle.std.proofs.Common.{◌≡◌}
use Rattle.vmd_bytes.specs.Slices.{splice}
use Rattle.vmd_columns.specs.Columns.{numbers_at}
use Rattle.vmd_columns.proofs.copy_numbers.Given as goal

abbrev pub invariant-loop-i : goal.invariant-loop-i
invariant-loop-i l = l.out ≡ splice l.initial.out l.to (numbers_at l.s l.i l.at)
