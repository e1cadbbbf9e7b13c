-- `vmd_text::write_text` meets its contract. Assumes nothing.
use mathlib.Core.Path.{refl, ap, ◌∙◌}
use Rattle.vmd_bytes.specs.Slices.{splice}
use Rattle.vmd_bytes.proofs.Laws.{run_all}
use Rattle.vmd_text.proofs.write_text.Goals as goal

pub returns : goal.returns
returns c = record { holds = c.copy_bytes.ensures ∙ ap (splice _ _) (run_all _); ends = refl }
