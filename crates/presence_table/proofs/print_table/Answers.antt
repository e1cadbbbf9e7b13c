-- `presence_table::print_table` is safe and ends: the text lies in the array that it is written to. Assumes nothing.
use Rattle.vmd_text.proofs.Laws.{front_fits}
use Rattle.presence_table.proofs.print_table.Goals as goal

pub slice_bounds-text-end : goal.slice_bounds-text-end
slice_bounds-text-end c = let w = c.write_words-n in (front_fits _ _ _ _ w.ensures.out_after w.ensures.value).0

pub slice_bounds-write_all-end : goal.slice_bounds-write_all-end
slice_bounds-write_all-end c = let w = c.write_words-n in (front_fits _ _ _ _ w.ensures.out_after w.ensures.value).1
