-- `vmd_compare::compare_rows` meets its contract. Assumes nothing.
use Prim.Native.Nat.{◌-◌}
use Rattle.vmd_form.specs.RowLaws.{Left}
use Rattle.vmd_compare.proofs.compare_rows.Given as goal

abbrev pub invariant-loop : goal.invariant-loop
invariant-loop g l = Left l.file (g.T.VmdComparedRecord.saved l.file) g.T.VmdRecord.SIZE l.at l.n l.p (l.n - l.counter)
