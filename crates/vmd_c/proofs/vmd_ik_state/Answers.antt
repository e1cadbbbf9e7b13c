-- `vmd_c::vmd_ik_state` meets its contract. Assumes nothing.
use mathlib.Core.Path.{refl}
use Rattle.vmd_format.specs.Bytes.{flag_byte}
use Rattle.vmd_records.specs.Fields.{ik_fields}
use Rattle.vmd_slots.proofs.Laws.{fetch_ik_at, reported}
use Rattle.vmd_c.proofs.vmd_ik_state.Goals as goal

pub returns : goal.returns
unfolding ik_fields
returns c =
    let r = c.report.ensures in
    reported ik_fields (λ x. flag_byte x.enabled) (λ k. flag_byte k.enabled) (λ v. refl) c.ik_state.ensures (fetch_ik_at _ _ _ _ c.opening_of-opening.ensures) _ r.value r.slot_left
