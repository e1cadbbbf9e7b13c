-- `vmd_excerpt::VmdExcerpt::write_back` meets its contract. Assumes nothing.
use Rattle.vmd_bytes.proofs.Writes.{rest_room, rest_then, rest_done}
use Rattle.vmd_excerpt.proofs.StageLaws.{back_rest}
use Rattle.vmd_excerpt.proofs.VmdExcerpt.write_back.Goals as goal

pub write_section-p-requires : goal.write_section-p-requires
write_section-p-requires c =
    let l = c.records-lights.ensures in
    rw (l.file, l.kind, l.section) (rest_room _ (back_rest _ _ _ _ c.requires))

pub write_section-q-requires : goal.write_section-q-requires
write_section-q-requires c =
    let l = c.records-lights.ensures in
    let d = c.records-self_shadows.ensures in
    let w = rw (l.file, l.kind, l.section) at c.write_section-p.ensures in
    rw (d.file, d.kind, d.section) (rest_room _ (rest_then _ (back_rest _ _ _ _ c.requires) w))

pub write_property_section-requires : goal.write_property_section-requires
write_property_section-requires c =
    let l = c.records-lights.ensures in
    let d = c.records-self_shadows.ensures in
    let p = c.property_frames-properties.ensures in
    let w = rw (l.file, l.kind, l.section) at c.write_section-p.ensures in
    let v = rw (d.file, d.kind, d.section) at c.write_section-q.ensures in
    rw (p.file, p.section) (rest_then _ (rest_then _ (back_rest _ _ _ _ c.requires) w) v).room

pub returns : goal.returns
returns c =
    let l = c.records-lights.ensures in
    let d = c.records-self_shadows.ensures in
    let p = c.property_frames-properties.ensures in
    let w = rw (l.file, l.kind, l.section) at c.write_section-p.ensures in
    let v = rw (d.file, d.kind, d.section) at c.write_section-q.ensures in
    let u = rw (p.file, p.section) at c.write_property_section.ensures in
    rest_done (rest_then _ (rest_then _ (back_rest _ _ _ _ c.requires) w) v) u
