-- `vmd_c::vmd_split_animation_into_parts_lenient` meets its contract. Assumes nothing.
use borrow.Author.Rules.{rules}
use Rattle.vmd_split.specs.Meaning.{sizes_are}
use Rattle.vmd_slots.specs.Meaning.{size_words}
use Rattle.vmd_slots.proofs.Laws.{meant}
use Rattle.vmd_c.proofs.vmd_split_animation_into_parts_lenient.Goals as goal

pub returns : goal.returns
returns c =
    let r = c.report.ensures in
    let m = meant sizes_are size_words _ c.split_file-answer.ensures.result_value _ r.value r.slot_left in
    (m.0, m.1, search rules)
