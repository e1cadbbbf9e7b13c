-- `vmd_c::split_sizes_in` meets its contract. Assumes nothing.
use Rattle.vmd_split.specs.Meaning.{sizes_are}
use Rattle.vmd_slots.specs.Meaning.{size_words}
use Rattle.vmd_slots.proofs.Laws.{meant}
use Rattle.vmd_c.proofs.split_sizes_in.Goals as goal

pub returns : goal.returns
returns c =
    let r = c.report.ensures in
    meant sizes_are size_words _ c.split_file_sizes.ensures _ r.value r.slot_left
