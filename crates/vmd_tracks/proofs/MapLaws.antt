-- Tidying goes only by keys and frames: the records may be replaced by their numbers.
use Rattle.std.specs.Prelude.{ℕ, ◌+◌, ◌≡◌, Bool}
use Rattle.std.proofs.Math.Path.{refl, ap}
use Rattle.std.proofs.Common.{sym, ◌∙◌}
use Rattle.std.proofs.Math.Bool.{true, false}
use mathlib.Core.List.{List, [], ◌∷◌, map, map-append}
use Rattle.vmd_laws.specs.ReadLaws.{All}
use Rattle.vmd_format.specs.Take.{same}
use Rattle.vmd_keys.specs.Names.{keep_if, select, distinct}
use Rattle.vmd_count.specs.DistinctLaws.{all_select}
use Rattle.vmd_tracks.specs.Tracks.{lasts, track, lay, tidy_section}
use Rattle.vmd_tracks.proofs.RankedLaws.{lasts_map, lasts_shift, map_two}

module _ {A B : Type 0} (h : A → B) where
  select_map : (t : B → Bool) (l : List A) → select t (map h l) ≡ map h (select (λ a. t (h a)) l)
  unfolding select keep_if
  select_map t [] = refl
  select_map t (a ∷ l) = go (t (h a)) (select_map t l)
    where
      go : (x : Bool) → select t (map h l) ≡ map h (select (λ a. t (h a)) l) → keep_if x (h a) (select t (map h l)) ≡ map h (keep_if x a (select (λ a. t (h a)) l))
      go true e = rw e
      go false e = e

  module _ (key : B → List ℕ) (frame : B → ℕ) where
    lay_map : (l : List A) (ns : List (List ℕ)) → lay key frame (map h l) ns ≡ map h (lay (λ a. key (h a)) (λ a. frame (h a)) l ns)
    unfolding lay track
    lay_map l [] = refl
    lay_map l (n ∷ ns) =
        rw (select_map (λ b. same n (key b)) l, lasts_map h frame (select (λ a. same n (key (h a))) l), lay_map l ns)
        (sym (map-append h (lasts (λ a. frame (h a)) (select (λ a. same n (key (h a))) l)) (lay (λ a. key (h a)) (λ a. frame (h a)) l ns)))

    -- LAW: tidying records is tidying their numbers
    pub tidy_section_map : (l : List A) → tidy_section key frame (map h l) ≡ map h (tidy_section (λ a. key (h a)) (λ a. frame (h a)) l)
    unfolding tidy_section
    tidy_section_map l = lay_map l (distinct (map key (map h l))) ∙ ap (λ ns. map h (lay (λ a. key (h a)) (λ a. frame (h a)) l ns)) (ap distinct (map_two key h l))

-- LAW: equal keys and frames on the records tidy alike
module _ {A : Type 0} (key key' : A → List ℕ) (frame frame' : A → ℕ) where
  select_alike : (n : List ℕ) (l : List A) → All (λ a. key a ≡ key' a) l → select (λ a. same n (key a)) l ≡ select (λ a. same n (key' a)) l
  unfolding select
  select_alike n [] e = refl
  select_alike n (a ∷ l) e = rw (e.0, select_alike n l e.1)

  lay_alike : (l : List A) (ns : List (List ℕ)) → All (λ a. key a ≡ key' a) l → All (λ a. frame a ≡ 0 + frame' a) l → lay key frame l ns ≡ lay key' frame' l ns
  unfolding lay track
  lay_alike l [] e f = refl
  lay_alike l (n ∷ ns) e f =
      rw (select_alike n l e, lasts_shift frame frame' 0 (select (λ a. same n (key' a)) l) (all_select _ (λ a. same n (key' a)) l f), lay_alike l ns e f)

  keys_alike : (l : List A) → All (λ a. key a ≡ key' a) l → map key l ≡ map key' l
  keys_alike [] e = refl
  keys_alike (a ∷ l) e = rw (e.0, keys_alike l e.1)

  pub tidy_section_alike : (l : List A) → All (λ a. key a ≡ key' a) l → All (λ a. frame a ≡ 0 + frame' a) l → tidy_section key frame l ≡ tidy_section key' frame' l
  unfolding tidy_section
  tidy_section_alike l e f = lay_alike l (distinct (map key l)) e f ∙ ap (λ ks. lay key' frame' l (distinct ks)) (keys_alike l e)
