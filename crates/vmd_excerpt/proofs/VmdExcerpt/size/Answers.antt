-- `vmd_excerpt::VmdExcerpt::size` meets its contract. Assumes nothing.
use mathlib.Core.Path.{ap, ◌∙◌}
use Rattle.vmd_format.specs.Answer.{within}
use Rattle.vmd_excerpt.proofs.StageLaws.{count_sizes}
use Rattle.vmd_excerpt.proofs.VmdExcerpt.size.Goals as goal

pub returns : goal.returns
returns c =
    let e = c.args.self.now in
    let b = c.records.ensures in
    let m = c.records-2.ensures in
    let k = c.records-3.ensures in
    let l = c.records-4.ensures in
    let d = c.records-shadows.ensures in
    let p = c.property_frames.ensures in
    let f = rw (p.file, p.section) at c.count_properties-frames.ensures in
    c.file_size.ensures
    ∙ ap (within c.args.limit) (count_sizes e.span.first e.span.last e.take.file.now _ _ _ _ _ _ _ _
    (rw (b.file, b.kind, b.section) at c.count_records-bones.ensures)
    (rw (m.file, m.kind, m.section) at c.count_records-morphs.ensures)
    (rw (k.file, k.kind, k.section) at c.count_records-cameras.ensures)
    (rw (l.file, l.kind, l.section) at c.count_records-lights.ensures)
    (rw (d.file, d.kind, d.section) at c.count_records-self_shadows.ensures) f.0 f.1)
