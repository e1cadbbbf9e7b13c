-- `vmd_tidy::count_kept` meets its contract. Assumes nothing.
use Rattle.vmd_scan.specs.Meaning.{scan_is}
use Rattle.vmd_tidy.proofs.Laws.{kept_of}
use Rattle.vmd_tidy.proofs.count_kept.Goals as goal

pub returns : goal.returns
returns c =
    let b = c.records.ensures in
    let m = c.records-2.ensures in
    let k = c.records-3.ensures in
    let l = c.records-4.ensures in
    let d = c.records-5.ensures in
    let p = c.property_frames.ensures in
    let f = rw (p.file, p.section) at c.count_properties-frames.ensures in
    kept_of c.args.take.now.file.now (scan_is c.args.take.now.sections)
    (record {
      bones_are = rw (b.file, b.kind, b.section) at c.count_records-bones.ensures;
      morphs_are = rw (m.file, m.kind, m.section) at c.count_records-morphs.ensures;
      cameras_are = rw (k.file, k.kind, k.section) at c.count_records-cameras.ensures;
    })
    (record {
      lights_are = rw (l.file, l.kind, l.section) at c.count_records-lights.ensures;
      shadows_are = rw (d.file, d.kind, d.section) at c.count_records-self_shadows.ensures;
      properties_are = f.0;
    })
    f.1
