-- Laws of season figures: the sentences of 02 b). In every manner of reading.
use Rattle.std.specs.Prelude.{ℕ, suc, ◌+◌, ◌-◌, ◌*◌, ◌≤◌, ◌<◌, min, ◌≡◌, Bool, true, false, length, eqb}
use Rattle.std.proofs.Math.Path.{refl, ap, sym}
use Rattle.std.proofs.Common.{◌∙◌, arith, div-add-mod', mod-lt, ne_eqb, eq-eqb}
use mathlib.Core.List.{List, [], ◌∷◌, ◌++◌, map}
use Rattle.std.proofs.lemmas.List.{length-map}
use Rattle.vmd_format.specs.Refusal.{Refusal}
use Rattle.vmd_format.specs.Answer.{Answer, declined, given, map_answer}
use Rattle.vmd_format.specs.Read.{Manner}
use Rattle.vmd_format.specs.Records.{Bone}
use Rattle.vmd_format.specs.Take.{Take, read_take}
use Rattle.vmd_keys.specs.Names.{bone_names_of, morph_names_of, registration_name, distinct}
use Rattle.vmd_season.specs.Season.{SectionFigures, Season, no_section_figures, only_refused, no_takes, TakeFigures, figures_of, records_of, largest_figure, take_fits, with_count, with_take, with_refused, taken_if, with_answer, with_file, season_from, season, mean_if, mean}
use Rattle.vmd_season.specs.Differ.{Differing, names, names_and_interpolation, DifferOnly, DifferEach, bone_without, camera_without, without_interpolation}
use Rattle.vmd_season.specs.DifferLaws.{names_read, interpolations_read}

-- ---- one file more

module _ (m : Manner) where
  -- "No takes gives zeros throughout."
  pub none_given : season m [] ≡ no_takes
  unfolding season season_from
  none_given = refl

  from_more : (z : Season) (l : List (List ℕ)) (s : List ℕ) → season_from m z (l ++ (s ∷ [])) ≡ with_file m (season_from m z l) s
  unfolding season_from
  from_more z [] s = refl
  from_more z (t ∷ l) s = from_more (with_file m z t) l s

  -- the figures of a list and one more
  pub one_more : (l : List (List ℕ)) (s : List ℕ) → season m (l ++ (s ∷ [])) ≡ with_file m (season m l) s
  unfolding season
  one_more l s = from_more no_takes l s

  module _ (z : Season) (s : List ℕ) where
    -- "A take that is refused is counted as refused and adds nothing else."
    pub refused_adds : (k : Refusal) → read_take m s ≡ declined k → with_file m z s ≡ with_refused z
    unfolding with_file with_answer
    refused_adds k e = rw e

    module _ (t : Take) (e : read_take m s ≡ given t) where
      given_adds : with_file m z s ≡ taken_if (take_fits z (figures_of t)) z (figures_of t)
      unfolding with_file with_answer
      given_adds = rw e

      -- "a take that would pass that adds only to refused"
      pub passing_adds : take_fits z (figures_of t) ≡ false → with_file m z s ≡ with_refused z
      unfolding taken_if
      passing_adds h = given_adds ∙ rw h

      pub fitting_adds : take_fits z (figures_of t) ≡ true → with_file m z s ≡ with_take z (figures_of t)
      unfolding taken_if
      fitting_adds h = given_adds ∙ rw h

-- "the refused number stops at its largest value"
pub refused_stops : (z : Season) → z.refused ≡ largest_figure → with_refused z ≡ z
unfolding with_refused
refused_stops z e =
    let r : min (z.refused + 1) largest_figure ≡ z.refused = omega arith in
    λ i. record {
      bones = z.bones;
      morphs = z.morphs;
      cameras = z.cameras;
      lights = z.lights;
      self_shadows = z.self_shadows;
      properties = z.properties;
      records = z.records;
      bone_names = z.bone_names;
      morph_names = z.morph_names;
      accepted = z.accepted;
      refused = r i;
    }

-- ---- smallest and largest

-- each section's figures with a take are these
abbrev pub SectionsAre : (SectionFigures → ℕ → SectionFigures) → Season → TakeFigures → Season → Type 0
SectionsAre g z f next =
    (next.bones ≡ g z.bones f.bones) × (next.morphs ≡ g z.morphs f.morphs) × (next.cameras ≡ g z.cameras f.cameras)
    × (next.lights ≡ g z.lights f.lights) × (next.self_shadows ≡ g z.self_shadows f.self_shadows)
    × (next.properties ≡ g z.properties f.properties)

-- with none accepted each section's smallest and largest are the take's count, whatever stood there
pub first_sets : (z : Season) (f : TakeFigures) → z.accepted ≡ 0 → SectionsAre (with_count true) z f (with_take z f)
unfolding with_take
first_sets z f e = rw (eq-eqb z.accepted 0 e) (refl, refl, refl, refl, refl, refl)

-- with some they are the smaller and the larger of both
pub later_compares : (z : Season) (f : TakeFigures) → 0 < z.accepted → SectionsAre (with_count false) z f (with_take z f)
unfolding with_take
later_compares z f h = rw (ne_eqb z.accepted 0 (λ e. omega arith)) (refl, refl, refl, refl, refl, refl)

-- ---- takes that differ in nothing that counts

names_without : (l : List Bone) → map (λ b. b.name) (map bone_without l) ≡ map (λ b. b.name) l
unfolding bone_without
names_without [] = refl
names_without (b ∷ l) = ap {B = List (List ℕ)} (λ r. b.name ∷ r) (names_without l)

-- 02 k), "Season figures .. follow": of the names only what tells their tracks counts
pub figures_follow : (t u : Take) → map registration_name (bone_names_of t) ≡ map registration_name (bone_names_of u)
    → map registration_name (morph_names_of t) ≡ map registration_name (morph_names_of u) → length t.cameras ≡ length u.cameras
    → length t.lights ≡ length u.lights → length t.self_shadows ≡ length u.self_shadows → length t.properties ≡ length u.properties
    → figures_of t ≡ figures_of u
unfolding figures_of bone_names_of morph_names_of
figures_follow t u b m c l s p =
    let x = as_many (λ b. b.name) t.bones u.bones b in
    let y = as_many (λ m. m.name) t.morphs u.morphs m in
    λ i. record {
      bones = x i;
      morphs = y i;
      cameras = c i;
      lights = l i;
      self_shadows = s i;
      properties = p i;
      bone_names = length (distinct (b i));
      morph_names = length (distinct (m i));
    }
  where
    as_many : {A : Type 0} (nm : A → List ℕ) (l k : List A) → map registration_name (map nm l) ≡ map registration_name (map nm k) → length l ≡ length k
    as_many nm l k e =
        omega (arith, ap length e, length-map (map nm l) registration_name, length-map l nm, length-map (map nm k) registration_name, length-map k nm)

figures_without : (t : Take) → figures_of (without_interpolation t) ≡ figures_of t
unfolding without_interpolation bone_names_of morph_names_of
figures_without t =
    figures_follow (without_interpolation t) t (ap (map registration_name) (names_without t.bones)) refl
    (length-map t.cameras camera_without) refl refl refl

-- "Takes that differ only in interpolation bytes .. give equal figures."
pub same_figures : (t u : Take) → without_interpolation t ≡ without_interpolation u → figures_of t ≡ figures_of u
same_figures t u e = sym (figures_without t) ∙ ap figures_of e ∙ figures_without u

answer_without : (z : Season) (x : Answer Take) → with_answer z (map_answer without_interpolation x) ≡ with_answer z x
unfolding with_answer map_answer
answer_without z (declined k) = refl
answer_without z (given t) = ap (λ f. taken_if (take_fits z f) z f) (figures_without t)

module _ (m : Manner) where
  -- ".. or in bytes after a name's first zero byte", files that differ in both too
  pub same_file : (d : Differing) (z : Season) (s t : List ℕ) → DifferOnly d s t → with_file m z s ≡ with_file m z t
  unfolding with_file
  same_file names z s t h = ap (with_answer z) (names_read m s t h)
  same_file names_and_interpolation z s t h =
      sym (answer_without z (read_take m s)) ∙ ap (with_answer z) (interpolations_read m s t h) ∙ answer_without z (read_take m t)

  from_same : (d : Differing) (z : Season) (l k : List (List ℕ)) → DifferEach d l k → season_from m z l ≡ season_from m z k
  unfolding season_from
  from_same d z [] [] h = refl
  from_same d z [] (t ∷ k) h = absurd h
  from_same d z (s ∷ l) [] h = absurd h
  from_same d z (s ∷ l) (t ∷ k) h = rw (same_file d z s t h.0) (from_same d (with_file m z t) l k h.1)

  pub same_season : (d : Differing) (l k : List (List ℕ)) → DifferEach d l k → season m l ≡ season m k
  unfolding season
  same_season d l k h = from_same d no_takes l k h

-- ---- the mean

-- "as quotient and remainder"
pub mean_exact : (z : Season) → 0 < z.accepted
    → ((mean z).quotient * z.accepted + (mean z).remainder ≡ z.records) × ((mean z).remainder < z.accepted)
unfolding mean mean_if
mean_exact z h =
    rw (ne_eqb z.accepted 0 (λ e. omega arith)) (div-add-mod' z.records z.accepted, mod-lt z.records h)

-- "with none accepted .. the mean's two numbers are 0"
pub mean_none : (z : Season) → z.accepted ≡ 0 → mean z ≡ record { quotient = 0; remainder = 0 }
unfolding mean mean_if
mean_none z e = rw (eq-eqb z.accepted 0 e)

-- ---- what holds of every list

-- a step keeps a fact that one more accepted and one more refused take keep
from_keeps : (P : Season → Type 0) (m : Manner) → ((z : Season) → P z → P (with_refused z)) → ((z : Season) (f : TakeFigures) → P z → P (with_take z f))
    → (l : List (List ℕ)) (z : Season) → P z → P (season_from m z l)
unfolding season_from with_file with_answer taken_if
from_keeps P m r t [] z h = h
from_keeps P m r t (s ∷ l) z h = from_keeps P m r t l (with_file m z s) (go (read_take m s))
  where
    one : (b : Bool) (f : TakeFigures) → P (taken_if b z f)
    one true f = t z f h
    one false f = r z h

    go : (x : Answer Take) → P (with_answer z x)
    go (declined k) = r z h
    go (given u) = one (take_fits z (figures_of u)) (figures_of u)

-- "with none accepted they .. are 0": smallest and largest, and all else but the refused number
pub none_accepted : (m : Manner) (l : List (List ℕ)) → (season m l).accepted ≡ 0 → season m l ≡ only_refused (season m l).refused
unfolding season with_refused with_take no_takes
none_accepted m l =
    from_keeps (λ z. z.accepted ≡ 0 → z ≡ only_refused z.refused) m
    (λ z h e. λ i. record {
      bones = (h e i).bones;
      morphs = (h e i).morphs;
      cameras = (h e i).cameras;
      lights = (h e i).lights;
      self_shadows = (h e i).self_shadows;
      properties = (h e i).properties;
      records = (h e i).records;
      bone_names = (h e i).bone_names;
      morph_names = (h e i).morph_names;
      accepted = (h e i).accepted;
      refused = min (z.refused + 1) largest_figure;
    })
    (λ z f h e. absurd (omega arith)) l no_takes (λ e. refl)

count_total : (b : Bool) (x : SectionFigures) (n : ℕ) → (with_count b x n).total ≡ x.total + n
unfolding with_count
count_total true x n = refl
count_total false x n = refl

-- the mean's total is "over all six sections"
abbrev pub totals_of : Season → ℕ
totals_of z = z.bones.total + z.morphs.total + z.cameras.total + z.lights.total + z.self_shadows.total + z.properties.total

pub records_are : (m : Manner) (l : List (List ℕ)) → (season m l).records ≡ totals_of (season m l)
unfolding season with_refused with_take no_takes no_section_figures records_of
records_are m l =
    from_keeps (λ z. z.records ≡ totals_of z) m (λ z h. h)
    (λ z f h. let b = eqb z.accepted 0 in
    omega (arith, count_total b z.bones f.bones, count_total b z.morphs f.morphs, count_total b z.cameras f.cameras, count_total b z.lights f.lights, count_total b z.self_shadows f.self_shadows, count_total b z.properties f.properties))
    l no_takes refl

-- ---- every take is counted

-- of n takes that were lent
record Counted (n : ℕ) (z : Season) : Type 0 where
  pub some : z.accepted ≤ n
  pub others : z.refused ≡ min (n - z.accepted) largest_figure

from_counted : (m : Manner) (l : List (List ℕ)) (n : ℕ) (z : Season) → Counted n z → Counted (n + length l) (season_from m z l)
unfolding season_from with_file with_answer taken_if with_take with_refused
from_counted m [] n z h = let e : n + 0 ≡ n = omega arith in rw e h
from_counted m (s ∷ l) n z h =
    let e : n + suc (length l) ≡ suc n + length l = omega arith in
    rw e (from_counted m l (suc n) (with_file m z s) (go (read_take m s)))
  where
    one : (b : Bool) (f : TakeFigures) → Counted (suc n) (taken_if b z f)
    one true f = record { some = omega (arith, h.some); others = omega (arith, h.some, h.others) }
    one false f = record { some = omega (arith, h.some); others = omega (arith, h.some, h.others) }

    go : (x : Answer Take) → Counted (suc n) (with_answer z x)
    go (declined k) = record { some = omega (arith, h.some); others = omega (arith, h.some, h.others) }
    go (given t) = one (take_fits z (figures_of t)) (figures_of t)

-- the refused takes are all that are not accepted, up to the largest value, whatever any figure would pass
pub lent_counted : (m : Manner) (l : List (List ℕ))
    → ((season m l).accepted ≤ length l) × ((season m l).refused ≡ min (length l - (season m l).accepted) largest_figure)
unfolding season no_takes
lent_counted m l =
    let h = from_counted m l 0 no_takes (record { some = omega arith; others = omega arith }) in
    let e : 0 + length l ≡ length l = omega arith in
    (rw e at h.some, rw e at h.others)
