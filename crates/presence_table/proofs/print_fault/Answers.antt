-- `presence_table::print_fault` is safe and ends: the text lies in the array that it is written to. Assumes nothing.
use Rattle.vmd_text.proofs.Laws.{front_fits}
use Rattle.presence_table.proofs.print_fault.Goals as goal

pub slice_bounds-text-end : goal.slice_bounds-text-end
slice_bounds-text-end c = let w = c.write_message-n in (front_fits _ _ _ _ w.ensures.out_after w.ensures.value).0

pub slice_bounds-say-end : goal.slice_bounds-say-end
slice_bounds-say-end c = let w = c.write_message-n in (front_fits _ _ _ _ w.ensures.out_after w.ensures.value).1
