-- The season figures of a list are those of all its takes at once, where no figure passes 64 bits.
use Prim.Native.Nat.{ℕ, suc, ◌+◌, ◌≤◌, min, max}
use Rattle.std.specs.Prelude.{◌≡◌, true, eqb}
use Rattle.std.proofs.Math.Path.{refl, ap, ap₂}
use Rattle.std.proofs.Common.{sym, ◌∙◌, ne_eqb}
use mathlib.Core.List.{List, [], ◌∷◌, ◌++◌, map, append-nil, append_assoc}
use native.Mathlib.Omega.{arith}
use Rattle.std.proofs.Math.ListN.{length, length-append}
use Rattle.std.proofs.lemmas.List.{length-map}
use Rattle.vmd_format.specs.Answer.{Answer, declined, given}
use Rattle.vmd_format.specs.Read.{Manner}
use Rattle.vmd_laws.specs.ReadLaws.{All, all_append}
use Rattle.vmd_format.specs.Take.{Take, read_take}
use Rattle.vmd_keys.specs.Names.{bone_names_of, morph_names_of, registration_name}
use Rattle.vmd_count.specs.DistinctLaws.{distinct_short}
use Rattle.vmd_season.specs.Season.{no_section_figures, no_takes, TakeFigures, figures_of, records_of, largest_figure, take_fits, with_count, with_take, with_refused, taken_if, with_answer, with_file, season_from, season}
use Rattle.vmd_season.specs.Fitting.{says_fits}
use Rattle.vmd_season.specs.Overall.{accepted_if, accepted_takes, refused_if, refused_takes, sum_over, smallest_over, largest_over, section_over, overall}

-- ---- one take more

sum_append : (f : TakeFigures → ℕ) (l k : List TakeFigures) → sum_over f (l ++ k) ≡ sum_over f l + sum_over f k
unfolding sum_over
sum_append f [] k = omega arith
sum_append f (a ∷ l) k = omega (arith, sum_append f l k)

smallest_more : (f : TakeFigures → ℕ) (b : TakeFigures) (l : List TakeFigures) (a : TakeFigures)
    → smallest_over f ((b ∷ l) ++ (a ∷ [])) ≡ min (smallest_over f (b ∷ l)) (f a)
unfolding smallest_over
smallest_more f b [] a = refl
smallest_more f b (c ∷ l) a = rw (smallest_more f c l a) (omega arith)

largest_more : (f : TakeFigures → ℕ) (l : List TakeFigures) (a : TakeFigures) → largest_over f (l ++ (a ∷ [])) ≡ max (largest_over f l) (f a)
unfolding largest_over
largest_more f [] a = omega arith
largest_more f (b ∷ l) a = rw (largest_more f l a) (omega arith)

section_more : (f : TakeFigures → ℕ) (l : List TakeFigures) (a : TakeFigures)
    → with_count (eqb (length l) 0) (section_over f l) (f a) ≡ section_over f (l ++ (a ∷ []))
unfolding with_count section_over sum_over smallest_over largest_over
section_more f [] a =
    let t : 0 + f a ≡ f a + 0 = omega arith in
    let m : f a ≡ max (f a) 0 = omega arith in
    λ i. record { total = t i; smallest = f a; largest = m i }
section_more f (b ∷ l) a =
    let e = ne_eqb (suc (length l)) 0 (λ q. omega arith) in
    let t : f b + sum_over f l + f a ≡ f b + sum_over f (l ++ (a ∷ [])) = simp (sum_append f l (a ∷ [])) (omega arith) in
    let s = sym (smallest_more f b l a) in
    let m = sym (largest_more f (b ∷ l) a) in
    rw e (λ i. record { total = t i; smallest = s i; largest = m i })

sum_more : (f : TakeFigures → ℕ) (l : List TakeFigures) (a : TakeFigures) → sum_over f l + f a ≡ sum_over f (l ++ (a ∷ []))
unfolding sum_over
sum_more f l a = simp (sum_append f l (a ∷ [])) (omega arith)

taken_more : (l : List TakeFigures) (n : ℕ) (a : TakeFigures) → with_take (overall l n) a ≡ overall (l ++ (a ∷ [])) n
unfolding with_take overall
taken_more l n a =
    let c : length l + 1 ≡ length (l ++ (a ∷ [])) = simp length-append (omega arith) in
    λ i. record {
      bones = section_more (λ f. f.bones) l a i;
      morphs = section_more (λ f. f.morphs) l a i;
      cameras = section_more (λ f. f.cameras) l a i;
      lights = section_more (λ f. f.lights) l a i;
      self_shadows = section_more (λ f. f.self_shadows) l a i;
      properties = section_more (λ f. f.properties) l a i;
      records = sum_more records_of l a i;
      bone_names = sum_more (λ f. f.bone_names) l a i;
      morph_names = sum_more (λ f. f.morph_names) l a i;
      accepted = c i;
      refused = n;
    }

refused_more : (l : List TakeFigures) (n : ℕ) → n + 1 ≤ largest_figure → with_refused (overall l n) ≡ overall l (n + 1)
unfolding with_refused overall
refused_more l n h = let e : min (n + 1) largest_figure ≡ n + 1 = omega arith in rw e

-- ---- it fits

-- a take has no more names than records
record Named (f : TakeFigures) : Type 0 where
  pub bones : f.bone_names ≤ f.bones
  pub morphs : f.morph_names ≤ f.morphs

figures_named : (t : Take) → Named (figures_of t)
unfolding figures_of bone_names_of morph_names_of
figures_named t = record {
  bones = omega (arith, distinct_short (map registration_name (bone_names_of t)), length-map (bone_names_of t) registration_name, length-map t.bones (λ b. b.name));
  morphs = omega (arith, distinct_short (map registration_name (morph_names_of t)), length-map (morph_names_of t) registration_name, length-map t.morphs (λ m. m.name));
}

sum_le : (f : TakeFigures → ℕ) (l : List TakeFigures) → ((a : TakeFigures) → Named a → f a ≤ records_of a) → All Named l
    → sum_over f l ≤ sum_over records_of l
unfolding sum_over
sum_le f [] h k = omega arith
sum_le f (a ∷ l) h k = omega (arith, h a k.0, sum_le f l h k.1)

module _ (l : List TakeFigures) (a : TakeFigures) (known : All Named l) (named : Named a)
    (few : sum_over records_of l + records_of a ≤ largest_figure) where
  figure_fits : (f : TakeFigures → ℕ) → ((a : TakeFigures) → Named a → f a ≤ records_of a) → sum_over f l + f a ≤ largest_figure
  figure_fits f h = let x = sum_le f l h known in let y = h a named in omega arith

  take_fits_there : (n : ℕ) → length l + 1 ≤ largest_figure → take_fits (overall l n) a ≡ true
  unfolding overall section_over records_of
  take_fits_there n h = says_fits (overall l n) a (record {
    bones = figure_fits (λ f. f.bones) (λ a k. omega arith);
    morphs = figure_fits (λ f. f.morphs) (λ a k. omega arith);
    cameras = figure_fits (λ f. f.cameras) (λ a k. omega arith);
    lights = figure_fits (λ f. f.lights) (λ a k. omega arith);
    self_shadows = figure_fits (λ f. f.self_shadows) (λ a k. omega arith);
    properties = figure_fits (λ f. f.properties) (λ a k. omega arith);
    records = figure_fits records_of (λ a k. omega arith);
    bone_names = figure_fits (λ f. f.bone_names) (λ a k. omega (arith, k.bones));
    morph_names = figure_fits (λ f. f.morph_names) (λ a k. omega (arith, k.morphs));
    accepted = h;
  })

few_here : (l : List TakeFigures) (a : TakeFigures) (k : List TakeFigures) → sum_over records_of (l ++ (a ∷ k)) ≤ largest_figure
    → sum_over records_of l + records_of a ≤ largest_figure
unfolding sum_over
few_here l a k h = omega (arith, sum_append records_of l (a ∷ k))

-- ---- LAW

module _ (m : Manner) where
  -- every file is accepted or refused
  pub each_counted : (l : List (List ℕ)) → length (accepted_takes m l) + refused_takes m l ≡ length l
  unfolding accepted_takes accepted_if refused_takes refused_if
  each_counted [] = omega arith
  each_counted (s ∷ l) = go (read_take m s) (each_counted l)
    where
      go : (x : Answer Take) → length (accepted_takes m l) + refused_takes m l ≡ length l
          → length (accepted_if x (accepted_takes m l)) + refused_if x (refused_takes m l) ≡ suc (length l)
      go (declined k) e = omega arith
      go (given t) e = omega arith

  abbrev Rest : List (List ℕ) → Type 0
  Rest l =
      (done : List TakeFigures) (n : ℕ) → All Named done → sum_over records_of (done ++ accepted_takes m l) ≤ largest_figure
      → length done + n + length l ≤ largest_figure
      → season_from m (overall done n) l ≡ overall (done ++ accepted_takes m l) (n + refused_takes m l)

  from_overall : (l : List (List ℕ)) → Rest l
  unfolding season_from accepted_takes accepted_if refused_takes refused_if with_file with_answer taken_if
  from_overall [] done n k h c = let z : n ≡ n + 0 = omega arith in ap₂ overall (sym (append-nil done)) z
  from_overall (s ∷ l) done n k h c = go (read_take m s) h (from_overall l)
    where
      go : (x : Answer Take) → sum_over records_of (done ++ accepted_if x (accepted_takes m l)) ≤ largest_figure → Rest l
          → season_from m (with_answer (overall done n) x) l ≡ overall (done ++ accepted_if x (accepted_takes m l)) (n + refused_if x (refused_takes m l))
      go (declined k') h rest =
          let e : n + 1 + refused_takes m l ≡ n + suc (refused_takes m l) = omega arith in
          ap (λ z. season_from m z l) (refused_more done n (omega arith)) ∙ rest done (n + 1) k h (omega arith) ∙ ap (overall (done ++ accepted_takes m l)) e
      go (given t) h rest =
          let a = figures_of t in
          let l' = accepted_takes m l in
          let q : (done ++ (a ∷ [])) ++ l' ≡ done ++ (a ∷ l') = append_assoc done (a ∷ []) l' in
          let c₁ : length (done ++ (a ∷ [])) + n + length l ≤ largest_figure = simp length-append (omega arith) in
          let h₁ : sum_over records_of ((done ++ (a ∷ [])) ++ l') ≤ largest_figure = rw q h in
          let fits = take_fits_there done a k (figures_named t) (few_here done a l' h) n (omega arith) in
          ap (λ b. season_from m (taken_if b (overall done n) a) l) fits
          ∙ ap (λ z. season_from m z l) (taken_more done n a)
          ∙ rest (done ++ (a ∷ [])) n (all_append Named done (a ∷ []) k (figures_named t, tt)) h₁ c₁
          ∙ ap (λ r. overall r (n + refused_takes m l)) q

  none_yet : no_takes ≡ overall [] 0
  unfolding no_takes no_section_figures overall section_over sum_over smallest_over largest_over
  none_yet = refl

  -- the figures of a list: each of the accepted takes counts, and the number of the others, where all records of the list, and
  -- its takes, are no more than 64 bits can say
  pub season_overall : (l : List (List ℕ)) → sum_over records_of (accepted_takes m l) ≤ largest_figure → length l ≤ largest_figure
      → season m l ≡ overall (accepted_takes m l) (refused_takes m l)
  unfolding season
  season_overall l h c =
      let z : 0 + refused_takes m l ≡ refused_takes m l = omega arith in
      ap (λ z. season_from m z l) none_yet ∙ from_overall l [] 0 tt h (omega arith) ∙ ap (overall (accepted_takes m l)) z
