-- `vmd_compare::compare_properties` meets its contract. Assumes nothing.
use Prim.Native.Nat.{◌-◌}
use Rattle.vmd_form.specs.FrameLaws.{FramesLeft}
use Rattle.vmd_compare.proofs.compare_properties.Given as goal

abbrev pub invariant-loop : goal.invariant-loop
invariant-loop l = FramesLeft l.file l.at l.n l.p (l.n - l.counter)
