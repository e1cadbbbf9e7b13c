-- `vmd_scan::oversized_section` meets its contract. Assumes nothing.
use mathlib.Core.Path.{ap}
use Rattle.vmd_format.specs.Answer.{given}
use Rattle.vmd_laws.specs.Places.{over_span}
use Rattle.vmd_scan.proofs.oversized_section.Goals as goal

pub returns-in-Some : goal.returns-in-Some
unfolding over_span
returns-in-Some c = rw c.in-Some.is

pub returns-in-None : goal.returns-in-None
unfolding over_span
returns-in-None c = rw c.in-None.is (ap given c.no_section.ensures)
