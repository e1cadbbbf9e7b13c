-- `vmd_c::is_canonical_in` meets its contract. Assumes nothing.
use Rattle.vmd_slots.proofs.Laws.{handed}
use Rattle.vmd_c.proofs.is_canonical_in.Goals as goal

pub returns : goal.returns
returns c = let r = c.report.ensures in handed _ _ (r.value, r.slot_left) c.is_canonical_file.ensures
