-- `vmd_c::vmd_light_frame` meets its contract. Assumes nothing.
use mathlib.Core.Path.{ap}
use Rattle.vmd_format.specs.Records.{light}
use Rattle.vmd_base.specs.Meaning.{answer_of}
use Rattle.vmd_records.specs.Fields.{light_floats}
use Rattle.vmd_slots.specs.Meaning.{light_values}
use Rattle.vmd_slots.proofs.Laws.{fetch_at, status_declined, status_given, slot_declined, slot_filled, told, arrived}
use Rattle.vmd_c.proofs.vmd_light_frame.Goals as goal

pub returns-in-Err : goal.returns-in-Err
returns-in-Err c =
    let e = told light_floats (fetch_at light (λ x. x.lights) _ _ c.opening_of.ensures) c.light_frame.ensures (ap answer_of c.in-Err.is) in
    (status_declined e c.number.ensures, slot_declined _ _ e, slot_declined _ _ e)

pub returns-in-Ok : goal.returns-in-Ok
unfolding light_values light_floats
returns-in-Ok c =
    let r = arrived light_floats (fetch_at light (λ x. x.lights) _ _ c.opening_of.ensures) c.light_frame.ensures (ap answer_of c.in-Ok.is) in
    (status_given r.is, slot_filled _ _ r (λ v z. rw z), slot_filled _ _ r (λ v z. rw z))
