-- `vmd_parts::write_property_section` meets its contract. Assumes nothing.
use Rattle.vmd_bytes.proofs.Writes.{rest_room, rest_then, rest_done}
use Rattle.vmd_parts.proofs.File.{frames_reach, frames_rest}
use Rattle.vmd_parts.proofs.write_property_section.Goals as goal

pub write_count-p-requires : goal.write_count-p-requires
write_count-p-requires c =
    rest_room _ (frames_rest c.args.src.now c.requires.1 c.property_count-n.ensures c.requires.2)

pub write_properties-requires : goal.write_properties-requires
write_properties-requires c =
    (frames_reach c.args.src.now c.requires.1 c.property_count-n.ensures, (rest_then _ (frames_rest c.args.src.now c.requires.1 c.property_count-n.ensures c.requires.2) c.write_count-p.ensures).room)

pub returns : goal.returns
returns c =
    rest_done (rest_then _ (frames_rest c.args.src.now c.requires.1 c.property_count-n.ensures c.requires.2) c.write_count-p.ensures) c.write_properties.ensures
