-- `vmd_list::main` is safe and ends: the line lies in the array that it is written to. Assumes nothing.
use Rattle.vmd_text.proofs.Laws.{front_fits}
use Rattle.vmd_list.proofs.main.Goals as goal

pub slice_bounds-out-end : goal.slice_bounds-out-end
slice_bounds-out-end c = let l = c.list_line-end in (front_fits _ _ _ _ l.ensures.out_after l.ensures.value).0

pub slice_bounds-write_all-end : goal.slice_bounds-write_all-end
slice_bounds-write_all-end c = let l = c.list_line-end in (front_fits _ _ _ _ l.ensures.out_after l.ensures.value).1
