-- `vmd_c::tidy_in` meets its contract. Assumes nothing.
use Rattle.vmd_slots.specs.Meaning.{status, slot_after, count_words}
use mathlib.Core.Path.{◌∙◌, ap}
use Rattle.vmd_c.proofs.tidy_in.Goals as goal

pub returns : goal.returns
returns c = let r = c.report_tidied.ensures in
    let a = c.tidy_file.ensures in
    (r.0 ∙ ap status a.result_value, r.1 ∙ ap (slot_after _ (λ t. t.bytes)) a.result_value, r.2 ∙ ap (slot_after _ (λ t. count_words t.kept)) a.result_value, r.3 ∙ ap (slot_after _ (λ t. count_words t.dropped)) a.result_value, a.out_after, a.scratch_left)
