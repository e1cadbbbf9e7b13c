-- `vmd_tidy_sections::tidy_first_frames` meets its contract. Assumes nothing.
use mathlib.Core.Path.{◌∙◌}
use native.Mathlib.Omega.{arith}
use Rattle.vmd_tidy_sections.specs.FrontLaws.{front_count, front_beyond, front_take}
use Rattle.vmd_tidy_sections.proofs.tidy_first_frames.Goals as goal

pub tidy_frames-requires : goal.tidy_frames-requires
tidy_frames-requires c = front_count c.args.run.count c.args.a.now c.requires

pub returns : goal.returns
returns c =
    let a = c.args in
    let t = c.tidy_frames.ensures in
    let n = front_count a.run.count a.a.now c.requires in
    (front_take a.run.count a.a.now c.requires c.tidy_frames.new.a t.2 _ t.1 ∙ t.0, omega (arith, t.1), front_beyond a.run.count a.a.now c.requires c.tidy_frames.new.a t.2)
