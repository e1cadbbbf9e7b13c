-- `vmd_slots::report` meets its contract, whatever the value is in the slot. Assumes nothing.
use mathlib.Core.Path.{refl}
use Rattle.vmd_slots.specs.Meaning.{status, slot_after}
use Rattle.vmd_slots.proofs.report.Goals as goal

pub returns-in-Err : goal.returns-in-Err
unfolding status slot_after
returns-in-Err g c = record { value = rw c.in-Err.is c.number.ensures; slot_left = rw c.in-Err.is refl }

pub returns-in-Ok : goal.returns-in-Ok
unfolding status slot_after
returns-in-Ok g c = record { value = rw c.in-Ok.is refl; slot_left = rw c.in-Ok.is c.slot.ensures }
