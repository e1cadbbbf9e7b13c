-- `vmd_tidy::keep_sections` meets its contract. Assumes nothing.
use native.Mathlib.Omega.{arith}
use Rattle.vmd_scan.specs.Meaning.{scan_is}
use Rattle.vmd_tidy.specs.StageLaws.{largest}
use Rattle.vmd_tidy.proofs.Laws.{kept_of, all_beyond}
use Rattle.vmd_tidy.proofs.keep_sections.Goals as goal

pub keep_records-bones-requires : goal.keep_records-bones-requires
keep_records-bones-requires c =
    rw c.records.ensures.section (omega (arith, (largest (scan_is c.args.take.now.sections)).bones, c.requires))

pub keep_records-morphs-requires : goal.keep_records-morphs-requires
keep_records-morphs-requires c =
    rw c.records-2.ensures.section (omega (arith, (largest (scan_is c.args.take.now.sections)).morphs, c.requires, c.keep_records-bones.ensures.1.long))

pub keep_records-cameras-requires : goal.keep_records-cameras-requires
keep_records-cameras-requires c =
    rw c.records-3.ensures.section (omega (arith, (largest (scan_is c.args.take.now.sections)).cameras, c.requires, c.keep_records-bones.ensures.1.long, c.keep_records-morphs.ensures.1.long))

pub keep_records-lights-requires : goal.keep_records-lights-requires
keep_records-lights-requires c =
    rw c.records-4.ensures.section (omega (arith, (largest (scan_is c.args.take.now.sections)).lights, c.requires, c.keep_records-bones.ensures.1.long, c.keep_records-morphs.ensures.1.long, c.keep_records-cameras.ensures.1.long))

pub keep_records-self_shadows-requires : goal.keep_records-self_shadows-requires
keep_records-self_shadows-requires c =
    rw c.records-shadows.ensures.section (omega (arith, (largest (scan_is c.args.take.now.sections)).self_shadows, c.requires, c.keep_records-bones.ensures.1.long, c.keep_records-morphs.ensures.1.long, c.keep_records-cameras.ensures.1.long, c.keep_records-lights.ensures.1.long))

pub keep_properties-frames-requires : goal.keep_properties-frames-requires
keep_properties-frames-requires c =
    rw c.property_frames.ensures.section (omega (arith, (largest (scan_is c.args.take.now.sections)).properties, c.requires, c.keep_records-bones.ensures.1.long, c.keep_records-morphs.ensures.1.long, c.keep_records-cameras.ensures.1.long, c.keep_records-lights.ensures.1.long, c.keep_records-self_shadows.ensures.1.long))

pub returns : goal.returns
returns c =
    let b = c.records.ensures in
    let m = c.records-2.ensures in
    let k = c.records-3.ensures in
    let l = c.records-4.ensures in
    let d = c.records-shadows.ensures in
    let p = c.property_frames.ensures in
    let bones = rw (b.file, b.kind, b.section) at c.keep_records-bones.ensures in
    let morphs = rw (m.file, m.kind, m.section) at c.keep_records-morphs.ensures in
    let cameras = rw (k.file, k.kind, k.section) at c.keep_records-cameras.ensures in
    let lights = rw (l.file, l.kind, l.section) at c.keep_records-lights.ensures in
    let shadows = rw (d.file, d.kind, d.section) at c.keep_records-self_shadows.ensures in
    let frames = rw (p.file, p.section) at c.keep_properties-frames.ensures in (
      kept_of c.args.take.now.file.now (scan_is c.args.take.now.sections)
          (record { bones_are = bones.0; morphs_are = morphs.0; cameras_are = cameras.0 })
          (record { lights_are = lights.0; shadows_are = shadows.0; properties_are = frames.0 })
          frames.1,
      all_beyond (scan_is c.args.take.now.sections) bones.1 morphs.1 cameras.1 lights.1 shadows.1 frames.2,
    )
