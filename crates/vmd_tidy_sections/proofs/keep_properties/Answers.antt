-- `vmd_tidy_sections::keep_properties` meets its contract. Assumes nothing.
use mathlib.Core.Path.{◌∙◌, ap}
use native.Mathlib.Omega.{arith}
use Rattle.vmd_base.specs.Meaning.{extent_is}
use Rattle.vmd_sort.specs.Walk.{states_there, total}
use Rattle.vmd_tidy_sections.specs.CountLaws.{frames_states}
use Rattle.vmd_tidy_sections.specs.SectionLaws.{frames_count}
use Rattle.vmd_tidy_sections.specs.FrontLaws.{front_count}
use Rattle.vmd_tidy_sections.specs.WalkLaws.{reach_ends}
use Rattle.vmd_tidy_sections.proofs.keep_properties.Goals as goal

pub returns : goal.returns
returns c =
    let p = c.args.properties in
    let s = p.file.now in
    let x = extent_is p.section in
    let t = c.tidy_properties-n.ensures in
    let n = c.tidy_properties-n.result in
    let l = c.tidy_properties-n.new.a in
    let h = front_count n l (omega (arith, t.1, t.2.long, c.requires)) in
    (frames_count s x n l t.0 h, c.count_ik_states.ensures ∙ ap (total (states_there s)) t.0 ∙ frames_states s x (reach_ends s p.section.count p.section.place p.begins p.reached), t.2)
