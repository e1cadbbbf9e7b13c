-- `vmd_c::vmd_ik_name` meets its contract. Assumes nothing.
use mathlib.Core.Path.{ap, ◌∙◌}
use Rattle.vmd_slots.specs.Meaning.{part_words}
use Rattle.vmd_slots.proofs.Laws.{ik_part_at}
use Rattle.vmd_c.proofs.vmd_ik_name.Goals as goal

pub returns : goal.returns
returns c =
    c.slot.ensures ∙ ap part_words (ik_part_at _ _ _ _ c.opening_of.ensures c.ik_name_part.ensures)
