-- `vmd_columns::write_interpolations` meets its contract. Assumes nothing.
use Rattle.std.proofs.Common.{◌≡◌, ◌+◌}
use Rattle.vmd_bytes.specs.Slices.{splice, run}
use Rattle.vmd_columns.specs.Columns.{column}
use Rattle.vmd_columns.proofs.write_interpolations.Given as goal

abbrev pub invariant-loop-i : goal.invariant-loop-i
invariant-loop-i l = l.out ≡ splice l.initial.out 0 (column (λ p. run l.s p 64) (l.at + l.offset) l.size l.i)
