-- `vmd_tidy_sections::write_places` meets its contract. Assumes nothing.
use Prim.Native.Nat.{◌-◌}
use lib.ListN.{length}
use Rattle.vmd_tidy_sections.specs.Sections.{written_at}
use Rattle.vmd_tidy_sections.specs.RunLaws.{Left}
use Rattle.vmd_tidy_sections.proofs.write_places.Given as goal

abbrev pub invariant-loop-i : goal.invariant-loop-i
invariant-loop-i l = Left (written_at l.stride l.s) l.places l.initial.out l.to l.out l.q l.i

abbrev pub decreases-loop-i : goal.decreases-loop-i
decreases-loop-i l = length l.places - l.i
