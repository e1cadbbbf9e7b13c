-- `vmd_tidy_sections::write_tidied_properties` meets its contract. Assumes nothing.
use native.Mathlib.Omega.{arith}
use Rattle.vmd_base.specs.Meaning.{extent_is}
use Rattle.vmd_tidy_sections.specs.SectionLaws.{frames_count, frames_bytes, frames_there}
use Rattle.vmd_tidy_sections.specs.FrontLaws.{front_count}
use Rattle.vmd_tidy_sections.specs.WalkLaws.{reach_ends}
use Rattle.vmd_tidy_sections.proofs.write_tidied_properties.Goals as goal

pub write_counted_places-end-requires : goal.write_counted_places-end-requires
write_counted_places-end-requires c =
    let p = c.args.properties in
    let s = p.file.now in
    let x = extent_is p.section in
    let t = c.tidy_properties-n.ensures in
    let n = c.tidy_properties-n.result in
    let l = c.tidy_properties-n.new.a in
    let h = front_count n l (omega (arith, t.1, t.2.long, c.requires.0)) in
    (omega (arith, h, t.1), rw t.0 (frames_there s x (reach_ends s p.section.count p.section.place p.begins p.reached)), rw h (rw (frames_bytes s x n l t.0 h) at c.requires.1))

pub returns : goal.returns
returns c =
    let p = c.args.properties in
    let s = p.file.now in
    let x = extent_is p.section in
    let t = c.tidy_properties-n.ensures in
    let n = c.tidy_properties-n.result in
    let l = c.tidy_properties-n.new.a in
    let h = front_count n l (omega (arith, t.1, t.2.long, c.requires.0)) in
    (rw (frames_bytes s x n l t.0 h) (rw h at c.write_counted_places-end.ensures), frames_count s x n l t.0 h, t.2)
