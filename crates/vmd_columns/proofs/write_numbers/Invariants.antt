-- `vmd_columns::write_numbers` meets its contract. Assumes nothing.
use Rattle.std.proofs.Common.{◌≡◌, ◌+◌}
use Rattle.vmd_bytes.specs.Slices.{splice}
use Rattle.vmd_columns.specs.Columns.{numbers_at, column}
use Rattle.vmd_columns.proofs.write_numbers.Given as goal

abbrev pub invariant-loop-i : goal.invariant-loop-i
invariant-loop-i l = l.out ≡ splice l.initial.out 0 (column (numbers_at l.s l.w) (l.at + l.offset) l.size l.i)
