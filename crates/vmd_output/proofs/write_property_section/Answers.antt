-- `vmd_output::write_property_section` meets its contract. Assumes nothing.
use Rattle.vmd_bytes.proofs.Writes.{rest_room, rest_then, rest_done}
use Rattle.vmd_output.proofs.Laws.{frames_rest}
use Rattle.vmd_output.proofs.write_property_section.Goals as goal

pub write_count-p-requires : goal.write_count-p-requires
write_count-p-requires c = rest_room _ (frames_rest _ _ _ _ c.requires.1)

pub write_properties-q-requires : goal.write_properties-q-requires
write_properties-q-requires c =
    (c.requires.0.first, rest_room _ (rest_then _ (frames_rest _ _ _ _ c.requires.1) c.write_count-p.ensures))

pub write_properties-requires : goal.write_properties-requires
write_properties-requires c =
    (c.requires.0.second, (rest_then _ (rest_then _ (frames_rest _ _ _ _ c.requires.1) c.write_count-p.ensures) c.write_properties-q.ensures).room)

pub returns : goal.returns
returns c =
    rest_done (rest_then _ (rest_then _ (frames_rest _ _ _ _ c.requires.1) c.write_count-p.ensures) c.write_properties-q.ensures) c.write_properties.ensures
