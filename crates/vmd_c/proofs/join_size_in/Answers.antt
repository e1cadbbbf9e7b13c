-- `vmd_c::join_size_in` meets its contract. Assumes nothing.
use Rattle.vmd_slots.proofs.Laws.{handed}
use Rattle.vmd_c.proofs.join_size_in.Goals as goal

pub returns : goal.returns
returns c = handed _ _ (c.report_written.ensures.value, c.report_written.ensures.slot_left) c.join_files_size.ensures
