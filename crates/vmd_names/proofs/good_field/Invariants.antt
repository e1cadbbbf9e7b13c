-- `vmd_names::good_field` meets its contract. The invariant: the field is good as what is left of it is. Assumes nothing.
use Prim.Native.Nat.{◌≤◌, ◌-◌}
use lib.ListN.{length}
use Rattle.vmd_names.proofs.Names.{FieldTo}
use Rattle.vmd_names.proofs.good_field.Given as goal

abbrev pub invariant-loop-i : goal.invariant-loop-i
invariant-loop-i l = (l.i ≤ length l.field) × FieldTo l.field l.i

abbrev pub decreases-loop-i : goal.decreases-loop-i
decreases-loop-i l = length l.field - l.i
