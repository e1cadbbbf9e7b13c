-- `vmd_c::vmd_morph_name` meets its contract. Assumes nothing.
use mathlib.Core.Path.{ap, ◌∙◌}
use Rattle.vmd_format.specs.Records.{morph}
use Rattle.vmd_slots.specs.Meaning.{part_words}
use Rattle.vmd_slots.proofs.Laws.{field_part_at}
use Rattle.vmd_c.proofs.vmd_morph_name.Goals as goal

pub returns : goal.returns
returns c =
    c.slot.ensures ∙ ap part_words (field_part_at morph 23 (λ x. x.name) 0 (λ x. x.morphs) _ _ c.opening_of.ensures c.morph_name_part.ensures)
