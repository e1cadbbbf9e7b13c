-- `vmd_c::vmd_model_name` meets its contract. Assumes nothing.
use mathlib.Core.Path.{ap, ◌∙◌}
use Rattle.vmd_slots.specs.Meaning.{part_words}
use Rattle.vmd_c.proofs.vmd_model_name.Goals as goal

pub returns : goal.returns
returns c = c.slot.ensures ∙ ap part_words c.model_part.ensures
