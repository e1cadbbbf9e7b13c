-- `vmd_slots::report_tidied` meets its contract. Assumes nothing.
use mathlib.Core.Path.{refl, ap}
use Rattle.vmd_base.specs.Meaning.{answer}
use Rattle.vmd_tidy.specs.Meaning.{report_is}
use Rattle.vmd_slots.specs.Meaning.{count_words}
use Rattle.vmd_slots.proofs.Laws.{status_declined, status_given, slot_declined, slot_given}
use Rattle.vmd_slots.proofs.report_tidied.Goals as goal

pub returns-in-Err : goal.returns-in-Err
returns-in-Err c =
    let e = ap (answer report_is) c.in-Err.is in
    (status_declined e c.number.ensures, slot_declined _ _ e, slot_declined _ _ e, slot_declined _ _ e)

pub returns-in-Ok : goal.returns-in-Ok
returns-in-Ok c =
    let e = ap (answer report_is) c.in-Ok.is in (
      status_given e,
      slot_given (λ t. t.bytes) _ e refl,
      slot_given (λ t. count_words t.kept) _ e c.slot.ensures,
      slot_given (λ t. count_words t.dropped) _ e c.slot-in-Ok.ensures,
    )
