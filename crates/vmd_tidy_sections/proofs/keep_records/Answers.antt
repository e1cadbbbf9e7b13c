-- `vmd_tidy_sections::keep_records` meets its contract. Assumes nothing.
use native.Mathlib.Omega.{arith}
use Rattle.vmd_base.specs.Meaning.{extent_is}
use Rattle.vmd_tidy_sections.specs.SectionLaws.{rows_count}
use Rattle.vmd_tidy_sections.specs.FrontLaws.{front_count}
use Rattle.vmd_tidy_sections.proofs.keep_records.Goals as goal

pub returns : goal.returns
returns c =
    let a = c.args.records in
    let t = c.tidy_records.ensures in
    let n = c.tidy_records.result in
    let l = c.tidy_records.new.a in
    (rows_count a.kind a.file.now (extent_is a.section) n l t.0 (front_count n l (omega (arith, t.1, t.2.long, c.requires))), t.2)
