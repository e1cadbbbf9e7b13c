-- `vmd_tidy_sections::write_run` meets its contract. Assumes nothing.
use native.Mathlib.Omega.{arith}
use Rattle.vmd_records.specs.KindLaws.{kind_sized}
use Rattle.vmd_records.specs.Kinds.{layout, size_of}
use Rattle.vmd_sort.specs.KindLaws.{kind_some}
use Rattle.vmd_tidy_sections.specs.WalkLaws.{frames_reach}
use Rattle.vmd_tidy_sections.specs.RunLaws.{records_are, frames_are, end_fixed}
use Rattle.vmd_tidy_sections.proofs.write_run.Goals as goal

pub write_records-requires : goal.write_records-requires
write_records-requires c =
    let r = c.args.run in
    let k = c.in-Records.kind in
    let w = rw c.in-Records.is at r.within in
    let h = rw c.in-Records.is at c.requires in (
      omega (arith, w, end_fixed r.file.now (size_of k) r.count r.place (kind_some k)),
      rw (records_are (layout k) r.file.now (size_of k) (kind_some k) (kind_sized k).size r.count r.place) h,
    )

pub returns-in-Records : goal.returns-in-Records
returns-in-Records c =
    let r = c.args.run in
    let k = c.in-Records.kind in
    rw c.in-Records.is (rw (records_are (layout k) r.file.now (size_of k) (kind_some k) (kind_sized k).size r.count r.place) at c.write_records.ensures)

pub write_properties-requires : goal.write_properties-requires
write_properties-requires c =
    let r = c.args.run in
    let w = rw c.in-PropertyFrames.is at r.within in
    let h = rw c.in-PropertyFrames.is at c.requires in
    (frames_reach _ _ _ w, rw (frames_are r.file.now r.count r.place) h)

pub returns-in-PropertyFrames : goal.returns-in-PropertyFrames
returns-in-PropertyFrames c =
    let r = c.args.run in
    rw c.in-PropertyFrames.is (rw (frames_are r.file.now r.count r.place) at c.write_properties.ensures)
