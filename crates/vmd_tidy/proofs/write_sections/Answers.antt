-- `vmd_tidy::write_sections` meets its contract. Assumes nothing.
use native.Mathlib.Omega.{arith}
use Rattle.vmd_scan.specs.Meaning.{scan_is}
use Rattle.vmd_tidy.specs.StageLaws.{largest, counts_kept}
use Rattle.vmd_tidy.proofs.Laws.{all_beyond, bones_room, morphs_room, cameras_room, lights_room, self_shadows_room, properties_room, sections_wrote}
use Rattle.vmd_tidy.proofs.write_sections.Goals as goal

pub write_tidied-b-requires : goal.write_tidied-b-requires
write_tidied-b-requires c =
    let r = c.records-bones.ensures in
    rw (r.file, r.kind, r.section) (
      omega (arith, (largest (scan_is c.args.take.now.sections)).bones, c.requires.0),
      bones_room c.args.take.now.file.now (scan_is c.args.take.now.sections) c.requires.1,
    )

pub write_tidied-m-requires : goal.write_tidied-m-requires
write_tidied-m-requires c =
    let r = c.records-bones.ensures in
    let bones = rw (r.file, r.kind, r.section) at c.write_tidied-b.ensures in
    let r = c.records-morphs.ensures in
    rw (r.file, r.kind, r.section) (
      omega (arith, (largest (scan_is c.args.take.now.sections)).morphs, c.requires.0, bones.2.long),
      morphs_room c.args.take.now.file.now (scan_is c.args.take.now.sections) c.requires.1 bones.0,
    )

pub write_tidied-c-requires : goal.write_tidied-c-requires
write_tidied-c-requires c =
    let r = c.records-bones.ensures in
    let bones = rw (r.file, r.kind, r.section) at c.write_tidied-b.ensures in
    let r = c.records-morphs.ensures in
    let morphs = rw (r.file, r.kind, r.section) at c.write_tidied-m.ensures in
    let r = c.records-cameras.ensures in
    rw (r.file, r.kind, r.section) (
      omega (arith, (largest (scan_is c.args.take.now.sections)).cameras, c.requires.0, bones.2.long, morphs.2.long),
      cameras_room c.args.take.now.file.now (scan_is c.args.take.now.sections) c.requires.1 bones.0 morphs.0,
    )

pub write_tidied-l-requires : goal.write_tidied-l-requires
write_tidied-l-requires c =
    let r = c.records-bones.ensures in
    let bones = rw (r.file, r.kind, r.section) at c.write_tidied-b.ensures in
    let r = c.records-morphs.ensures in
    let morphs = rw (r.file, r.kind, r.section) at c.write_tidied-m.ensures in
    let r = c.records-cameras.ensures in
    let cameras = rw (r.file, r.kind, r.section) at c.write_tidied-c.ensures in
    let r = c.records-lights.ensures in
    rw (r.file, r.kind, r.section) (
      omega (arith, (largest (scan_is c.args.take.now.sections)).lights, c.requires.0, bones.2.long, morphs.2.long, cameras.2.long),
      lights_room c.args.take.now.file.now (scan_is c.args.take.now.sections) c.requires.1 bones.0 morphs.0 cameras.0,
    )

pub write_tidied-d-requires : goal.write_tidied-d-requires
write_tidied-d-requires c =
    let r = c.records-bones.ensures in
    let bones = rw (r.file, r.kind, r.section) at c.write_tidied-b.ensures in
    let r = c.records-morphs.ensures in
    let morphs = rw (r.file, r.kind, r.section) at c.write_tidied-m.ensures in
    let r = c.records-cameras.ensures in
    let cameras = rw (r.file, r.kind, r.section) at c.write_tidied-c.ensures in
    let r = c.records-lights.ensures in
    let lights = rw (r.file, r.kind, r.section) at c.write_tidied-l.ensures in
    let r = c.records-self_shadows.ensures in
    rw (r.file, r.kind, r.section) (
      omega (arith, (largest (scan_is c.args.take.now.sections)).self_shadows, c.requires.0, bones.2.long, morphs.2.long, cameras.2.long, lights.2.long),
      self_shadows_room c.args.take.now.file.now (scan_is c.args.take.now.sections) c.requires.1 bones.0 morphs.0 cameras.0 lights.0,
    )

pub write_tidied_properties-p-requires : goal.write_tidied_properties-p-requires
write_tidied_properties-p-requires c =
    let r = c.records-bones.ensures in
    let bones = rw (r.file, r.kind, r.section) at c.write_tidied-b.ensures in
    let r = c.records-morphs.ensures in
    let morphs = rw (r.file, r.kind, r.section) at c.write_tidied-m.ensures in
    let r = c.records-cameras.ensures in
    let cameras = rw (r.file, r.kind, r.section) at c.write_tidied-c.ensures in
    let r = c.records-lights.ensures in
    let lights = rw (r.file, r.kind, r.section) at c.write_tidied-l.ensures in
    let r = c.records-self_shadows.ensures in
    let self_shadows = rw (r.file, r.kind, r.section) at c.write_tidied-d.ensures in
    let r = c.property_frames-properties.ensures in
    rw (r.file, r.section) (
      omega (arith, (largest (scan_is c.args.take.now.sections)).properties, c.requires.0, bones.2.long, morphs.2.long, cameras.2.long, lights.2.long, self_shadows.2.long),
      properties_room c.args.take.now.file.now (scan_is c.args.take.now.sections) c.requires.1 bones.0 morphs.0 cameras.0 lights.0 self_shadows.0,
    )

pub returns : goal.returns
returns c =
    let r = c.records-bones.ensures in
    let bones = rw (r.file, r.kind, r.section) at c.write_tidied-b.ensures in
    let r = c.records-morphs.ensures in
    let morphs = rw (r.file, r.kind, r.section) at c.write_tidied-m.ensures in
    let r = c.records-cameras.ensures in
    let cameras = rw (r.file, r.kind, r.section) at c.write_tidied-c.ensures in
    let r = c.records-lights.ensures in
    let lights = rw (r.file, r.kind, r.section) at c.write_tidied-l.ensures in
    let r = c.records-self_shadows.ensures in
    let self_shadows = rw (r.file, r.kind, r.section) at c.write_tidied-d.ensures in
    let r = c.property_frames-properties.ensures in
    let properties = rw (r.file, r.section) at c.write_tidied_properties-p.ensures in (
      sections_wrote c.args.take.now.file.now (scan_is c.args.take.now.sections) c.requires.1 bones.0 morphs.0 cameras.0 lights.0 self_shadows.0 properties.0,
      counts_kept c.args.take.now.file.now (scan_is c.args.take.now.sections) _ _ _ _ _ _
          (record { bones_are = bones.1; morphs_are = morphs.1; cameras_are = cameras.1 })
          (record { lights_are = lights.1; shadows_are = self_shadows.1; properties_are = properties.1 }),
      all_beyond (scan_is c.args.take.now.sections) bones.2 morphs.2 cameras.2 lights.2 self_shadows.2 properties.2,
    )
