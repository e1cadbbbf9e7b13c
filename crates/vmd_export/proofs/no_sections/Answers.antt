-- `vmd_export::no_sections` meets its contract. Assumes nothing.
use mathlib.Core.Path.{refl}
use Rattle.vmd_export.specs.Together.{no_scan}
use Rattle.vmd_export.proofs.no_sections.Goals as goal

pub returns : goal.returns
unfolding no_scan
returns c = refl
