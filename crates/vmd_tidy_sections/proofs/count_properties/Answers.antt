-- `vmd_tidy_sections::count_properties` meets its contract. Assumes nothing.
use mathlib.Core.Path.{ap, ◌∙◌}
use native.Mathlib.Omega.{arith}
use Rattle.vmd_base.specs.Meaning.{extent_is}
use Rattle.vmd_sort.specs.Order.{there}
use Rattle.vmd_sort.specs.Walk.{step, states_there, total}
use Rattle.vmd_tidy_sections.specs.CountLaws.{keys_few, frames_many, frames_states}
use Rattle.vmd_tidy_sections.specs.SectionLaws.{frames_kept}
use Rattle.vmd_tidy_sections.specs.WalkLaws.{reach_ends}
use Rattle.vmd_tidy_sections.proofs.count_properties.Goals as goal

pub invariant_of-run : goal.invariant_of-run
invariant_of-run c =
    let p = c.args.properties in
    record { within = reach_ends p.file.now p.section.count p.section.place p.begins p.reached; bytes = p.bytes }

pub overflow_cast-result : goal.overflow_cast-result
overflow_cast-result c =
    let p = c.args.properties in
    omega (arith, c.count_kept-kept.ensures.0, keys_few (there p.file.now) (step p.file.now 0) p.section.count p.section.place)

pub returns : goal.returns
returns c =
    let p = c.args.properties in
    let s = p.file.now in
    let x = extent_is p.section in
    let h = reach_ends s p.section.count p.section.place p.begins p.reached in
    let t = c.count_kept-kept.ensures in
    (t.0 ∙ frames_many s x h, t.1 ∙ ap (total (states_there s)) (frames_kept s x h) ∙ frames_states s x h)
