-- `vmd_scan::no_section` meets its contract. Assumes nothing.
use mathlib.Core.Path.{refl}
use Rattle.vmd_laws.specs.Places.{no_span}
use Rattle.vmd_scan.proofs.no_section.Goals as goal

pub returns : goal.returns
unfolding no_span
returns c = refl
