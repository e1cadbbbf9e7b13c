-- Season figures by places: the steps of the code are the definition. Assumes nothing.
use Prim.Native.Nat.{ℕ, ◌+◌}
use mathlib.Core.Path.{◌≡◌, refl, sym, ap, ◌∙◌}
use mathlib.Core.Bool.{Bool, true, false}
use mathlib.Core.List.{List, map}
use lib.ListN.{length}
use lib.Dec.{eqb}
use Rattle.vmd_format.specs.Refusal.{Refusal}
use Rattle.vmd_format.specs.Answer.{declined, given, map_answer}
use Rattle.vmd_format.specs.Read.{Manner}
use Rattle.vmd_format.specs.Take.{take_of}
use Rattle.vmd_format.specs.Opening.{Scan}
use Rattle.vmd_laws.specs.Places.{scan_file}
use Rattle.vmd_laws.specs.PlacesLaws.{section_in}
use Rattle.vmd_laws.specs.ScanLaws.{file_in}
use Rattle.vmd_laws.specs.ExportLaws.{take_in, take_by_places, Scanned, scan_counts}
use Rattle.vmd_keys.specs.Names.{names_in, bone_names_of, morph_names_of, registration_name, distinct}
use Rattle.vmd_keys.specs.NameLaws.{bone_names, morph_names}
use Rattle.vmd_season.specs.Fitting.{AllFit, fits_says, says_fits}
use Rattle.vmd_season.specs.Season.{SectionFigures, Season, TakeFigures, figures_of, records_of, take_fits, with_count, with_take, with_refused, taken_if, with_answer, with_file}

-- ---- whether a take fits

module _ (z : Season) (f : TakeFigures) where
  pub taken_whole : AllFit z f → true ≡ take_fits z f
  taken_whole h = sym (says_fits z f h)

  -- a figure that has no room
  pub not_taken : ¬ (AllFit z f) → false ≡ take_fits z f
  not_taken h = go (take_fits z f) refl
    where
      go : (b : Bool) → take_fits z f ≡ b → false ≡ b
      go true e = absurd (h (fits_says z f e))
      go false e = refl

-- ---- one take more

pub counted : (z : Season) (f : TakeFigures) {b m c l s p : SectionFigures} {n bn mn a : ℕ}
    → b ≡ with_count (eqb z.accepted 0) z.bones f.bones
    → m ≡ with_count (eqb z.accepted 0) z.morphs f.morphs
    → c ≡ with_count (eqb z.accepted 0) z.cameras f.cameras
    → l ≡ with_count (eqb z.accepted 0) z.lights f.lights
    → s ≡ with_count (eqb z.accepted 0) z.self_shadows f.self_shadows
    → p ≡ with_count (eqb z.accepted 0) z.properties f.properties
    → n ≡ z.records + records_of f
    → bn ≡ z.bone_names + f.bone_names
    → mn ≡ z.morph_names + f.morph_names
    → a ≡ z.accepted + 1
    → record {
      bones = b;
      morphs = m;
      cameras = c;
      lights = l;
      self_shadows = s;
      properties = p;
      records = n;
      bone_names = bn;
      morph_names = mn;
      accepted = a;
      refused = z.refused;
    } ≡ with_take z f
unfolding with_take
counted z f b m c l s p n bn mn a = λ i. record {
  bones = b i;
  morphs = m i;
  cameras = c i;
  lights = l i;
  self_shadows = s i;
  properties = p i;
  records = n i;
  bone_names = bn i;
  morph_names = mn i;
  accepted = a i;
  refused = z.refused;
}

-- ---- a file, by a scan of it

module _ (s : List ℕ) (x : Scan) where
  bone_names_are : bone_names_of (take_in s x) ≡ names_in s x.bones.place 111 x.bones.count
  unfolding bone_names_of take_in take_of file_in section_in
  bone_names_are = bone_names s x.bones.place x.bones.count

  morph_names_are : morph_names_of (take_in s x) ≡ names_in s x.morphs.place 23 x.morphs.count
  unfolding morph_names_of take_in take_of file_in section_in
  morph_names_are = morph_names s x.morphs.place x.morphs.count

  pub figures_found : Scanned s x → {bn mn : ℕ}
      → bn ≡ length (distinct (map registration_name (names_in s x.bones.place 111 x.bones.count)))
      → mn ≡ length (distinct (map registration_name (names_in s x.morphs.place 23 x.morphs.count)))
      → record {
        bones = x.bones.count;
        morphs = x.morphs.count;
        cameras = x.cameras.count;
        lights = x.lights.count;
        self_shadows = x.self_shadows.count;
        properties = x.properties.count;
        bone_names = bn;
        morph_names = mn;
      } ≡ figures_of (take_in s x)
  unfolding figures_of
  figures_found h p q =
      let c = scan_counts s x h in
      let b = p ∙ sym (ap (λ l. length (distinct (map registration_name l))) bone_names_are) in
      let m = q ∙ sym (ap (λ l. length (distinct (map registration_name l))) morph_names_are) in
      λ i. record {
        bones = sym c.bones i;
        morphs = sym c.morphs i;
        cameras = sym c.cameras i;
        lights = sym c.lights i;
        self_shadows = sym c.self_shadows i;
        properties = sym c.properties i;
        bone_names = b i;
        morph_names = m i;
      }

module _ (m : Manner) (z : Season) (s : List ℕ) where
  pub file_refused : {k : Refusal} → scan_file m s ≡ declined k → with_refused z ≡ with_file m z s
  unfolding with_file with_answer map_answer
  file_refused e = rw (take_by_places m s, e)

  pub file_taken : {x : Scan} {f : TakeFigures} → scan_file m s ≡ given x → f ≡ figures_of (take_in s x) → taken_if (take_fits z f) z f ≡ with_file m z s
  unfolding with_file with_answer map_answer
  file_taken e q = rw (take_by_places m s, e, q)
