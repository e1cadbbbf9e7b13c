-- `vmd_names::fault_by` meets its contract. The invariant: all before i is good. Assumes nothing.
use Prim.Native.Nat.{◌≤◌, ◌-◌}
use lib.ListN.{length}
use Rattle.vmd_laws.specs.NamesLaws.{GoodTo}
use Rattle.vmd_names.proofs.fault_by.Given as goal

abbrev pub invariant-loop-i : goal.invariant-loop-i
invariant-loop-i l = (l.i ≤ length l.bytes) × GoodTo l.bytes l.i

abbrev pub decreases-loop-i : goal.decreases-loop-i
decreases-loop-i l = length l.bytes - l.i
