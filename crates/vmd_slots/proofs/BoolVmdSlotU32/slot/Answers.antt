-- A flag in a slot is its byte. Assumes nothing.
use mathlib.Core.Path.{◌∙◌}
use Rattle.vmd_bytes.proofs.Laws.{flag_number}
use Rattle.vmd_slots.proofs.BoolVmdSlotU32.slot.Goals as goal

pub returns : goal.returns
returns c = c.from.ensures ∙ flag_number c.args.self
