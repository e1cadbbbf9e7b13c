-- `vmd_c::join_in` meets its contract. Assumes nothing.
use Rattle.vmd_slots.proofs.Laws.{handed}
use Rattle.vmd_c.proofs.join_in.Goals as goal

pub returns : goal.returns
returns c =
    let w = c.join_files.ensures in
    let r = handed _ _ (c.report_written.ensures.value, c.report_written.ensures.slot_left) w.result_value in
    (r.0, r.1, w.out_after)
