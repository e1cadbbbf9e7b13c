-- `vmd_tidy_sections::write_tidied` meets its contract. Assumes nothing.
use native.Mathlib.Omega.{arith}
use Rattle.vmd_base.specs.Meaning.{extent_is}
use Rattle.vmd_records.specs.Kinds.{size_of}
use Rattle.vmd_sort.specs.KindLaws.{kind_some}
use Rattle.vmd_tidy_sections.specs.SectionLaws.{rows_count, rows_bytes, places_there}
use Rattle.vmd_tidy_sections.specs.FrontLaws.{front_count}
use Rattle.vmd_tidy_sections.specs.RunLaws.{fixed_ends}
use Rattle.vmd_tidy_sections.proofs.write_tidied.Goals as goal

pub write_counted_places-end-requires : goal.write_counted_places-end-requires
write_counted_places-end-requires c =
    let a = c.args.records in
    let s = a.file.now in
    let x = extent_is a.section in
    let t = c.tidy_records-n.ensures in
    let n = c.tidy_records-n.result in
    let l = c.tidy_records-n.new.a in
    let h = front_count n l (omega (arith, t.1, t.2.long, c.requires.0)) in (
      omega (arith, h, t.1),
      rw t.0 (places_there a.kind s x (fixed_ends s (size_of a.kind) a.section.count a.section.place (kind_some a.kind) a.inside.ends)),
      rw h (rw (rows_bytes a.kind s x n l t.0 h) at c.requires.1),
    )

pub returns : goal.returns
returns c =
    let a = c.args.records in
    let s = a.file.now in
    let x = extent_is a.section in
    let t = c.tidy_records-n.ensures in
    let n = c.tidy_records-n.result in
    let l = c.tidy_records-n.new.a in
    let h = front_count n l (omega (arith, t.1, t.2.long, c.requires.0)) in
    (rw (rows_bytes a.kind s x n l t.0 h) (rw h at c.write_counted_places-end.ensures), rows_count a.kind s x n l t.0 h, t.2)
