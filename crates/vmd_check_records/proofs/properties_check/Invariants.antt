-- `vmd_check_records::properties_check` meets its contract. Assumes nothing.
use Prim.Native.Nat.{◌-◌}
use Rattle.vmd_check_records.proofs.Properties.{Framing}
use Rattle.vmd_check_records.proofs.properties_check.Given as goal

abbrev pub invariant-loop : goal.invariant-loop
invariant-loop l = Framing l.bytes l.at (l.n - l.counter)
