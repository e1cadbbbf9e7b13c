-- `vmd_output::write_section` meets its contract. Assumes nothing.
use Rattle.vmd_bytes.proofs.Writes.{rest_room, rest_then, rest_done}
use Rattle.vmd_output.proofs.Laws.{section_rest}
use Rattle.vmd_output.proofs.write_section.Goals as goal

pub write_count-p-requires : goal.write_count-p-requires
write_count-p-requires c = rest_room _ (section_rest _ _ _ _ _ c.requires.1)

pub write_records-q-requires : goal.write_records-q-requires
write_records-q-requires c =
    (c.requires.0.first.ends, rest_room _ (rest_then _ (section_rest _ _ _ _ _ c.requires.1) c.write_count-p.ensures))

pub write_records-requires : goal.write_records-requires
write_records-requires c =
    (c.requires.0.second.ends, (rest_then _ (rest_then _ (section_rest _ _ _ _ _ c.requires.1) c.write_count-p.ensures) c.write_records-q.ensures).room)

pub returns : goal.returns
returns c =
    rest_done (rest_then _ (rest_then _ (section_rest _ _ _ _ _ c.requires.1) c.write_count-p.ensures) c.write_records-q.ensures) c.write_records.ensures
