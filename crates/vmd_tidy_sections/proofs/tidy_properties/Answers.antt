-- `vmd_tidy_sections::tidy_properties` meets its contract. Assumes nothing.
use mathlib.Core.Path.{◌∙◌}
use Rattle.vmd_base.specs.Meaning.{extent_is}
use Rattle.vmd_tidy_sections.specs.SectionLaws.{frames_kept}
use Rattle.vmd_tidy_sections.specs.WalkLaws.{reach_ends}
use Rattle.vmd_tidy_sections.proofs.tidy_properties.Goals as goal

pub invariant_of-run : goal.invariant_of-run
invariant_of-run c =
    let p = c.args.properties in
    record { within = reach_ends p.file.now p.section.count p.section.place p.begins p.reached; bytes = p.bytes }

pub returns : goal.returns
returns c =
    let p = c.args.properties in
    let t = c.tidy_first_frames.ensures in
    (t.0 ∙ frames_kept p.file.now (extent_is p.section) (reach_ends p.file.now p.section.count p.section.place p.begins p.reached), t.1, t.2)
