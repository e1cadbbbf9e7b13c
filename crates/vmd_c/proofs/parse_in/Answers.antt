-- `vmd_c::parse_in` meets its contract. Assumes nothing.
use mathlib.Core.Path.{refl, sym, ◌∙◌}
use Rattle.vmd_slots.specs.Meaning.{count_words, counts_of, places_of, totals_of}
use Rattle.vmd_slots.proofs.Laws.{status_declined, status_given, slot_declined, slot_given}
use Rattle.vmd_c.proofs.parse_in.Goals as goal

pub returns-in-Err : goal.returns-in-Err
returns-in-Err c =
    let e = sym c.in-Err.ensures.result_value in
    (status_declined e c.number.ensures, slot_declined _ _ e, slot_declined _ _ e, slot_declined _ _ e, c.open_file.ensures.scratch_left)

pub returns-in-Ok : goal.returns-in-Ok
unfolding count_words counts_of places_of totals_of
returns-in-Ok c =
    let e = sym c.in-Ok.ensures.result_value in (
      status_given e,
      slot_given _ _ e (c.slot.ensures ∙ rw c.counts.ensures refl),
      slot_given _ _ e refl,
      slot_given _ _ e refl,
      c.open_file.ensures.scratch_left,
    )
