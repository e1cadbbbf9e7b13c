-- What it is for a take to fit: each of the ten figures stays within 64 bits, and nothing else is asked.
use Rattle.std.specs.Prelude.{◌+◌, ◌≤◌, ◌≡◌, true}
use Rattle.std.proofs.Math.Bool.{and-eq-true_iff}
use borrow.Author.Tests.{leb-true, le-leb}
use Rattle.vmd_season.specs.Season.{Season, TakeFigures, records_of, largest_figure, totals_fit, take_fits}

-- "Totals, the mean's over all six sections, the two sums and the numbers of accepted .. takes are 64-bit"
pub record AllFit (z : Season) (f : TakeFigures) : Type 0 where
  pub bones : z.bones.total + f.bones ≤ largest_figure
  pub morphs : z.morphs.total + f.morphs ≤ largest_figure
  pub cameras : z.cameras.total + f.cameras ≤ largest_figure
  pub lights : z.lights.total + f.lights ≤ largest_figure
  pub self_shadows : z.self_shadows.total + f.self_shadows ≤ largest_figure
  pub properties : z.properties.total + f.properties ≤ largest_figure
  pub records : z.records + records_of f ≤ largest_figure
  pub bone_names : z.bone_names + f.bone_names ≤ largest_figure
  pub morph_names : z.morph_names + f.morph_names ≤ largest_figure
  pub accepted : z.accepted + 1 ≤ largest_figure

module _ (z : Season) (f : TakeFigures) where
  pub fits_says : take_fits z f ≡ true → AllFit z f
  unfolding take_fits totals_fit
  fits_says e =
      let a = (and-eq-true_iff _ _).0 e in
      let b = (and-eq-true_iff _ _).0 a.0 in
      let c = (and-eq-true_iff _ _).0 b.0 in
      let d = (and-eq-true_iff _ _).0 c.0 in
      let g = (and-eq-true_iff _ _).0 d.0 in
      let h = (and-eq-true_iff _ _).0 g.0 in
      let i = (and-eq-true_iff _ _).0 h.0 in
      let j = (and-eq-true_iff _ _).0 i.0 in
      let k = (and-eq-true_iff _ _).0 j.0 in
      record {
        bones = leb-true _ _ k.0;
        morphs = leb-true _ _ k.1;
        cameras = leb-true _ _ j.1;
        lights = leb-true _ _ i.1;
        self_shadows = leb-true _ _ h.1;
        properties = leb-true _ _ g.1;
        records = leb-true _ _ d.1;
        bone_names = leb-true _ _ c.1;
        morph_names = leb-true _ _ b.1;
        accepted = leb-true _ _ a.1;
      }

  pub says_fits : AllFit z f → take_fits z f ≡ true
  unfolding take_fits totals_fit
  says_fits h =
      rw (
        le-leb _ _ h.bones,
        le-leb _ _ h.morphs,
        le-leb _ _ h.cameras,
        le-leb _ _ h.lights,
        le-leb _ _ h.self_shadows,
        le-leb _ _ h.properties,
        le-leb _ _ h.records,
        le-leb _ _ h.bone_names,
        le-leb _ _ h.morph_names,
        le-leb _ _ h.accepted,
      )
