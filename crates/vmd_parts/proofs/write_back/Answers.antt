-- `vmd_parts::write_back` meets its contract. Assumes nothing.
use Rattle.vmd_bytes.proofs.Writes.{rest_all, rest_room, rest_then, rest_done}
use Rattle.vmd_parts.specs.Stages.{back_bytes}
use Rattle.vmd_parts.proofs.write_back.Goals as goal

pub write_records_section-p-requires : goal.write_records_section-p-requires
unfolding back_bytes
write_records_section-p-requires c =
    (c.requires.0.camera_count, rest_room _ (rest_all c.requires.1))

pub write_records_section-q-requires : goal.write_records_section-q-requires
unfolding back_bytes
write_records_section-q-requires c =
    (c.requires.0.light_count, rest_room _ (rest_then _ (rest_all c.requires.1) c.write_records_section-p.ensures))

pub write_records_section-r-requires : goal.write_records_section-r-requires
unfolding back_bytes
write_records_section-r-requires c =
    (c.requires.0.self_shadow_count, rest_room _ (rest_then _ (rest_then _ (rest_all c.requires.1) c.write_records_section-p.ensures) c.write_records_section-q.ensures))

pub write_property_section-requires : goal.write_property_section-requires
unfolding back_bytes
write_property_section-requires c =
    (c.requires.0.property_count, c.requires.0.properties, (rest_then _ (rest_then _ (rest_then _ (rest_all c.requires.1) c.write_records_section-p.ensures) c.write_records_section-q.ensures) c.write_records_section-r.ensures).room)

pub returns : goal.returns
unfolding back_bytes
returns c =
    rest_done (rest_then _ (rest_then _ (rest_then _ (rest_all c.requires.1) c.write_records_section-p.ensures) c.write_records_section-q.ensures) c.write_records_section-r.ensures) c.write_property_section.ensures
