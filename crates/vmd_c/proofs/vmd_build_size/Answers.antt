-- `vmd_c::vmd_build_size` meets its contract. Assumes nothing.
use Rattle.vmd_slots.proofs.Laws.{handed}
use Rattle.vmd_c.proofs.vmd_build_size.Goals as goal

pub returns : goal.returns
returns c = handed _ _ (c.report_written.ensures.value, c.report_written.ensures.slot_left) c.build_vmd_size-answer.ensures
