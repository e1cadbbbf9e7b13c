-- `vmd_c::first_change_in` meets its contract. Assumes nothing.
use Rattle.vmd_canonical.specs.Meaning.{change_is}
use Rattle.vmd_slots.specs.Meaning.{change_words}
use Rattle.vmd_slots.proofs.Laws.{meant}
use Rattle.vmd_c.proofs.first_change_in.Goals as goal

pub returns : goal.returns
returns c =
    let r = c.report.ensures in
    meant change_is change_words _ c.first_file_change.ensures _ r.value r.slot_left
