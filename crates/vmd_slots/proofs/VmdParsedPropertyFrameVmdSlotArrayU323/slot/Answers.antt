-- A flag in a slot is its byte. Assumes nothing.
use mathlib.Core.Path.{refl, ◌∙◌}
use Rattle.vmd_bytes.proofs.Laws.{flag_number}
use Rattle.vmd_slots.proofs.VmdParsedPropertyFrameVmdSlotArrayU323.slot.Goals as goal

pub returns : goal.returns
returns c = rw (c.from.ensures ∙ flag_number c.args.self.visible) refl
