-- `vmd_excerpt::VmdExcerpt::write_front` meets its contract. Assumes nothing.
use Rattle.vmd_bytes.proofs.Writes.{rest_room, rest_then, rest_done}
use Rattle.vmd_excerpt.proofs.StageLaws.{front_rest}
use Rattle.vmd_excerpt.proofs.VmdExcerpt.write_front.Goals as goal

pub write_section-p-requires : goal.write_section-p-requires
write_section-p-requires c =
    let b = c.records-bones.ensures in
    rw (b.file, b.kind, b.section) (rest_room _ (front_rest _ _ _ _ c.requires))

pub write_section-q-requires : goal.write_section-q-requires
write_section-q-requires c =
    let b = c.records-bones.ensures in
    let m = c.records-morphs.ensures in
    let w = rw (b.file, b.kind, b.section) at c.write_section-p.ensures in
    rw (m.file, m.kind, m.section) (rest_room _ (rest_then _ (front_rest _ _ _ _ c.requires) w))

pub write_section-requires : goal.write_section-requires
write_section-requires c =
    let b = c.records-bones.ensures in
    let m = c.records-morphs.ensures in
    let k = c.records-cameras.ensures in
    let w = rw (b.file, b.kind, b.section) at c.write_section-p.ensures in
    let v = rw (m.file, m.kind, m.section) at c.write_section-q.ensures in
    rw (k.file, k.kind, k.section) (rest_then _ (rest_then _ (front_rest _ _ _ _ c.requires) w) v).room

pub returns : goal.returns
returns c =
    let b = c.records-bones.ensures in
    let m = c.records-morphs.ensures in
    let k = c.records-cameras.ensures in
    let w = rw (b.file, b.kind, b.section) at c.write_section-p.ensures in
    let v = rw (m.file, m.kind, m.section) at c.write_section-q.ensures in
    let u = rw (k.file, k.kind, k.section) at c.write_section.ensures in
    rest_done (rest_then _ (rest_then _ (front_rest _ _ _ _ c.requires) w) v) u
