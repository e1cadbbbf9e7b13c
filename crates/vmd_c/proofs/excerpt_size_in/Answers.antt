-- `vmd_c::excerpt_size_in` meets its contract. Assumes nothing.
use Rattle.vmd_slots.proofs.Laws.{handed}
use Rattle.vmd_c.proofs.excerpt_size_in.Goals as goal

pub returns : goal.returns
returns c = handed _ _ (c.report_written.ensures.value, c.report_written.ensures.slot_left) c.excerpt_file_size.ensures
