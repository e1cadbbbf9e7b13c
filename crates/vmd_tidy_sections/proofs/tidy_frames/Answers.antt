-- `vmd_tidy_sections::tidy_frames` meets its contract. Assumes nothing.
use lib.ListN.{length}
use mathlib.Core.Path.{◌∙◌, ap}
use native.Mathlib.Omega.{arith}
use Rattle.vmd_tracks.specs.Tracks.{lasts}
use Rattle.vmd_sort.specs.Order.{there}
use Rattle.vmd_sort.specs.WalkLaws.{step_past, places_rise, places_count}
use Rattle.vmd_tidy_sections.proofs.tidy_frames.Goals as goal

pub tidy_places-requires : goal.tidy_places-requires
tidy_places-requires c = rw c.fill_places.ensures (places_rise _ (step_past _ _) _ _)

pub returns : goal.returns
returns c =
    let f = c.fill_places.ensures in
    let t = c.tidy_places.ensures in
    let n = ap length f ∙ places_count _ _ _ in
    (t.0 ∙ ap (lasts (there c.args.run.file.now)) f, omega (arith, t.1), omega (arith, t.2))
