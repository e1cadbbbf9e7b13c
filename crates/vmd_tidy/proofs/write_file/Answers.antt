-- `vmd_tidy::write_file` meets its contract. Assumes nothing.
use mathlib.Core.List.{◌++◌}
use Rattle.vmd_bytes.proofs.Writes.{rest_room, rest_then, rest_done}
use Rattle.vmd_scan.specs.Meaning.{scan_is}
use Rattle.vmd_tidy.specs.Stages.{front_bytes, back_bytes}
use Rattle.vmd_tidy.specs.StageLaws.{file_rest}
use Rattle.vmd_tidy.proofs.Laws.{counts_few}
use Rattle.vmd_tidy.proofs.write_file.Goals as goal

pub write_header-to-requires : goal.write_header-to-requires
write_header-to-requires c =
    rest_room (front_bytes c.args.take.now.file.now (scan_is c.args.take.now.sections) ++ back_bytes c.args.take.now.file.now (scan_is c.args.take.now.sections)) (file_rest c.args.take.now.file.now (scan_is c.args.take.now.sections) c.requires.1 _ c.model_name-model.ensures)

pub write_sections-written-requires : goal.write_sections-written-requires
write_sections-written-requires c =
    (c.requires.0, (rest_then (front_bytes c.args.take.now.file.now (scan_is c.args.take.now.sections) ++ back_bytes c.args.take.now.file.now (scan_is c.args.take.now.sections)) (file_rest c.args.take.now.file.now (scan_is c.args.take.now.sections) c.requires.1 _ c.model_name-model.ensures) c.write_header-to.ensures).room)

pub dropped_from-requires : goal.dropped_from-requires
dropped_from-requires c = counts_few c.args.take.now.file.now (scan_is c.args.take.now.sections) c.write_sections-written.ensures.1 c.args.take.now.scanned

pub returns : goal.returns
returns c =
    let r = rest_then (front_bytes c.args.take.now.file.now (scan_is c.args.take.now.sections) ++ back_bytes c.args.take.now.file.now (scan_is c.args.take.now.sections)) (file_rest c.args.take.now.file.now (scan_is c.args.take.now.sections) c.requires.1 _ c.model_name-model.ensures) c.write_header-to.ensures in
    let w = c.write_sections-written.ensures in
    (rest_done r w.0, w.1, c.dropped_from.ensures, w.2)
