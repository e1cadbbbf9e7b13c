-- Kept and dropped records make up the records read.
use Prim.Native.Nat.{ℕ, suc, ◌+◌}
use Rattle.std.proofs.Math.Path.{◌≡◌, refl, sym}
use Rattle.std.proofs.Common.{ap, ◌∙◌}
use Rattle.std.specs.Prelude.{Bool, ◌&&◌, ◌||◌}
use Rattle.std.proofs.Math.Bool.{true, false, not}
use mathlib.Core.List.{List, [], ◌∷◌, ◌++◌, map}
use native.Mathlib.Omega.{arith}
use borrow.Author.Tests.{eqb-true, eqb-false, not-true}
use Rattle.std.proofs.Math.ListN.{length}
use Rattle.std.proofs.Math.Dec.{eqb}
use Rattle.vmd_laws.specs.ReadLaws.{All}
use Rattle.vmd_format.specs.Take.{same}
use Rattle.vmd_keys.specs.Names.{keep_if, select, distinct}
use Rattle.vmd_count.specs.DistinctLaws.{same_refl, Names, equal, apart, names, all_select, select_passed, select_none}
use Rattle.vmd_tracks.specs.Tracks.{put, put_all, lasts, track, lay, tidy_section, any, same_slot, dropped}
use Rattle.vmd_tracks.proofs.TrackLaws.{same_sym, never, Test, passed, failed, test, all_map, select_weaker, put_over, put_comm, put_past, all_put_all, put_lt, put_gt, Order, before, level, after, order}

module _ {A : Type 0} where
  any_none : (f : A → Bool) (l : List A) → any f l ≡ false → All (λ a. f a ≡ false) l
  unfolding any
  any_none f [] e = tt
  any_none f (a ∷ l) e = go (f a) refl (any f l) (λ h. any_none f l h) e
    where
      go : (x : Bool) → f a ≡ x → (y : Bool) → (y ≡ false → All (λ a. f a ≡ false) l) → (x || y) ≡ false → All (λ a. f a ≡ false) (a ∷ l)
      go true p y h e = let z : ◌≡◌ {A = ℕ} 0 1 = cc in absurd (omega arith)
      go false p y h e = (p, h e)

  any_select : (f g : A → Bool) (l : List A) → any (λ b. f b && g b) l ≡ any g (select f l)
  unfolding any select keep_if
  any_select f g [] = refl
  any_select f g (a ∷ l) = go (f a) (any_select f g l)
    where
      go : (x : Bool) → any (λ b. f b && g b) l ≡ any g (select f l) → ((x && g a) || any (λ b. f b && g b) l) ≡ any g (keep_if x a (select f l))
      go true e = rw e
      go false e = e

  pub all_both : (P Q R : A → Type 0) (l : List A) → ((a : A) → P a → Q a → R a) → All P l → All Q l → All R l
  all_both P Q R [] f h k = tt
  all_both P Q R (a ∷ l) f h k = (f a h.0 k.0, all_both P Q R l f h.1 k.1)

-- what passes a test counts for one
unfoldable one_if : Bool → ℕ
one_if true = 1
one_if false = 0

-- what each of a list counts for, added up
unfoldable pub sum_over : {A : Type 0} → (A → ℕ) → List A → ℕ
sum_over f [] = 0
sum_over f (a ∷ l) = f a + sum_over f l

module _ {A : Type 0} where
  sum_add : (f g h : A → ℕ) (l : List A) → ((a : A) → f a + g a ≡ h a) → sum_over f l + sum_over g l ≡ sum_over h l
  unfolding sum_over
  sum_add f g h [] e = refl
  sum_add f g h (a ∷ l) e = omega (arith, e a, sum_add f g h l e)

  sum_append : (f : A → ℕ) (l m : List A) → sum_over f (l ++ m) ≡ sum_over f l + sum_over f m
  unfolding sum_over
  sum_append f [] m = omega arith
  sum_append f (a ∷ l) m = omega (arith, sum_append f l m)

  sum_length : (l : List A) → sum_over (λ a. 1) l ≡ length l
  unfolding sum_over
  sum_length [] = refl
  sum_length (a ∷ l) = omega (arith, sum_length l)

  sum_split : (w : A → ℕ) (f : A → Bool) (l : List A) → sum_over w (select f l) + sum_over w (select (λ a. not (f a)) l) ≡ sum_over w l
  unfolding select keep_if sum_over
  sum_split w f [] = refl
  sum_split w f (a ∷ l) = go (f a) (sum_split w f l)
    where
      go : (x : Bool) → sum_over w (select f l) + sum_over w (select (λ a. not (f a)) l) ≡ sum_over w l
          → sum_over w (keep_if x a (select f l)) + sum_over w (keep_if (not x) a (select (λ a. not (f a)) l)) ≡ w a + sum_over w l
      go true e = unfold sum_over in omega arith
      go false e = unfold sum_over in omega arith

  sum_passed : (f : A → Bool) (l : List A) → sum_over (λ a. one_if (f a)) l ≡ length (select f l)
  unfolding select keep_if sum_over one_if
  sum_passed f [] = refl
  sum_passed f (a ∷ l) = go (f a) (sum_passed f l)
    where
      go : (x : Bool) → sum_over (λ a. one_if (f a)) l ≡ length (select f l) → one_if x + sum_over (λ a. one_if (f a)) l ≡ length (keep_if x a (select f l))
      go true e = omega arith
      go false e = omega arith

pub known_past : (k : List ℕ) (ks : List (List ℕ)) (n : List ℕ) → same k n ≡ false → any (λ k. same k n) (k ∷ ks) ≡ any (λ k. same k n) ks
unfolding any
known_past k ks n e = rw e

-- one track
module _ {A : Type 0} (frame : A → ℕ) where
  -- those with a later record of the same frame
  pub lost : List A → List A
  lost [] = []
  lost (a ∷ l) = keep_if (any (λ b. eqb (frame a) (frame b)) l) a (lost l)

  -- a record with a later one of its frame leaves nothing
  put_lost : (a : A) (s l : List A) → any (λ b. eqb (frame a) (frame b)) l ≡ true → put_all frame (put frame a s) l ≡ put_all frame s l
  unfolding put_all any
  put_lost a s [] e = let z : ◌≡◌ {A = ℕ} 0 1 = cc in absurd (omega arith)
  put_lost a s (b ∷ l) e = go (test (eqb (frame a) (frame b))) (λ h. put_lost a (put frame b s) l h)
    where
      go : Test (eqb (frame a) (frame b)) → (any (λ b. eqb (frame a) (frame b)) l ≡ true → put_all frame (put frame a (put frame b s)) l ≡ put_all frame (put frame b s) l)
          → put_all frame (put frame b (put frame a s)) l ≡ put_all frame (put frame b s) l
      go (passed p) h = rw (put_over frame b a s (sym (eqb-true _ _ p)))
      go (failed p) h = rw (← put_comm frame a b s (eqb-false _ _ p)) (h (rw p at e))

  put_fresh : (w : A → ℕ) (a : A) (l : List A) → All (λ b. ¬ (frame a ≡ frame b)) l → sum_over w (put frame a l) ≡ w a + sum_over w l
  unfolding sum_over
  put_fresh w a [] h = unfold put in refl
  put_fresh w a (b ∷ l) h = go (order frame a b) (put_fresh w a l h.1)
    where
      go : Order frame a b → sum_over w (put frame a l) ≡ w a + sum_over w l → sum_over w (put frame a (b ∷ l)) ≡ w a + (w b + sum_over w l)
      go (before q) e = rw (put_lt frame a b l q)
      go (level q) e = absurd (h.0 q)
      go (after q) e = rw (put_gt frame a b l q) (unfold sum_over in omega arith)

  -- what is kept of a track and what is lost make up the track
  lasts_made_up : (w : A → ℕ) (l : List A) → sum_over w (lasts frame l) + sum_over w (lost l) ≡ sum_over w l
  unfolding lasts lost keep_if put_all sum_over
  lasts_made_up w [] = refl
  lasts_made_up w (a ∷ l) = go (any (λ b. eqb (frame a) (frame b)) l) refl (lasts_made_up w l)
    where
      go : (x : Bool) → any (λ b. eqb (frame a) (frame b)) l ≡ x → sum_over w (put_all frame [] l) + sum_over w (lost l) ≡ sum_over w l
          → sum_over w (put_all frame (put frame a []) l) + sum_over w (keep_if x a (lost l)) ≡ w a + sum_over w l
      go true p e = rw (put_lost a [] l p) (unfold sum_over in omega arith)
      go false p e =
          let d : All (λ b. ¬ (frame a ≡ frame b)) l = all_map _ _ l (λ b (q : eqb (frame a) (frame b) ≡ false). eqb-false _ _ q) (any_none _ l p) in
          rw (put_past frame a [] l d, put_fresh w a (put_all frame [] l) (all_put_all frame _ [] l tt d)) (omega arith)

  pub lasts_lost : (l : List A) → length (lasts frame l) + length (lost l) ≡ length l
  lasts_lost l = rw (← sum_length (lasts frame l), ← sum_length (lost l), ← sum_length l) (lasts_made_up (λ a. 1) l)

  -- those without a later record of the same frame
  pub stays : List A → List A
  stays [] = []
  stays (a ∷ l) = keep_if (not (any (λ b. eqb (frame a) (frame b)) l)) a (stays l)

  put_stays : (s l : List A) → put_all frame s l ≡ put_all frame s (stays l)
  unfolding put_all stays keep_if
  put_stays s [] = refl
  put_stays s (a ∷ l) = go (any (λ b. eqb (frame a) (frame b)) l) refl (put_stays s l) (put_stays (put frame a s) l)
    where
      go : (x : Bool) → any (λ b. eqb (frame a) (frame b)) l ≡ x → put_all frame s l ≡ put_all frame s (stays l)
          → put_all frame (put frame a s) l ≡ put_all frame (put frame a s) (stays l)
          → put_all frame (put frame a s) l ≡ put_all frame s (keep_if (not x) a (stays l))
      go true p e f = put_lost a s l p ∙ e
      go false p e f = f

  stays_lost : (l : List A) → length (stays l) + length (lost l) ≡ length l
  unfolding stays lost keep_if
  stays_lost [] = refl
  stays_lost (a ∷ l) = go (any (λ b. eqb (frame a) (frame b)) l) (stays_lost l)
    where
      go : (x : Bool) → length (stays l) + length (lost l) ≡ length l
          → length (keep_if (not x) a (stays l)) + length (keep_if x a (lost l)) ≡ suc (length l)
      go true e = omega arith
      go false e = omega arith

  -- LAW: a track keeps just the records without a later one of their frame: they alone count, and none of them is lost
  pub lasts_stays : (l : List A) → (lasts frame l ≡ lasts frame (stays l)) × (length (lasts frame l) ≡ length (stays l))
  unfolding lasts
  lasts_stays l = (put_stays [] l, let a = lasts_lost l in let b = stays_lost l in unfold lasts in omega arith)

-- sections
module _ {A : Type 0} (key : A → List ℕ) (frame : A → ℕ) where
  abbrev pub without : List ℕ → List A → List A
  without k l = select (λ a. not (same k (key a))) l

  abbrev pub Known : List (List ℕ) → A → Type 0
  Known ks a = any (λ k. same k (key a)) ks ≡ true

  pub track_without : (k n : List ℕ) (l : List A) → same k n ≡ false → track key n (without k l) ≡ track key n l
  unfolding track
  track_without k n l d = select_weaker (λ a. same n (key a)) (λ a. not (same k (key a))) l (λ a h. go a (names k (key a)) h)
    where
      go : (a : A) → Names k (key a) → not (same k (key a)) ≡ false → same n (key a) ≡ false
      go a (equal p x y) h = rw (← p, same_sym n k) d
      go a (apart x y) h = let z : ◌≡◌ {A = ℕ} 0 1 = cc in absurd (omega arith)

  track_gone : (n : List ℕ) (l : List A) → track key n (without n l) ≡ []
  unfolding track
  track_gone n l = select_none (λ a. same n (key a)) (without n l)
      (all_map _ _ (without n l) (λ a (h : not (same n (key a)) ≡ true). not-true _ h) (select_passed (λ a. not (same n (key a))) l))

  sum_without : (w : A → ℕ) (k : List ℕ) (l : List A) (ns : List (List ℕ))
      → sum_over (λ n. sum_over w (track key n l)) (select (λ n. not (same k n)) ns) ≡ sum_over (λ n. sum_over w (track key n (without k l))) ns
  unfolding select keep_if sum_over
  sum_without w k l [] = refl
  sum_without w k l (n ∷ ns) = go (names k n) (sum_without w k l ns)
    where
      go : Names k n → sum_over (λ n. sum_over w (track key n l)) (select (λ n. not (same k n)) ns) ≡ sum_over (λ n. sum_over w (track key n (without k l))) ns
          → sum_over (λ n. sum_over w (track key n l)) (keep_if (not (same k n)) n (select (λ n. not (same k n)) ns))
          ≡ sum_over w (track key n (without k l)) + sum_over (λ n. sum_over w (track key n (without k l))) ns
      go (equal p x y) e = rw (x, e, ← p, track_gone k l) (unfold sum_over in omega arith)
      go (apart x y) e = rw (x, e, track_without k n l x)

  known_without : (k : List ℕ) (ks : List (List ℕ)) (l : List A) → All (Known (k ∷ ks)) l → All (Known ks) (without k l)
  known_without k ks l h =
      all_both _ _ _ (without k l) (λ a p q. go a (names k (key a)) p q) (all_select _ (λ a. not (same k (key a))) l h) (select_passed (λ a. not (same k (key a))) l)
    where
      go : (a : A) → Names k (key a) → Known (k ∷ ks) a → not (same k (key a)) ≡ true → Known ks a
      go a (equal p x y) h e = let z : ◌≡◌ {A = ℕ} 0 1 = cc in absurd (omega arith)
      go a (apart x y) h e = rw (← known_past k ks (key a) x) h

  -- the tracks make up the records
  tracks_sum : (w : A → ℕ) (ks : List (List ℕ)) (l : List A) → All (Known ks) l → sum_over (λ n. sum_over w (track key n l)) (distinct ks) ≡ sum_over w l
  unfolding distinct sum_over
  tracks_sum w [] [] h = refl
  tracks_sum w [] (a ∷ l) h = never (unfold any in h.0)
  tracks_sum w (k ∷ ks) l h =
      rw (sum_without w k l (distinct ks), tracks_sum w ks (without k l) (known_without k ks l h))
      (unfold track in sum_split w (λ a. same k (key a)) l)

  known_more : (k : List ℕ) (ks : List (List ℕ)) (a : A) → Known ks a → Known (k ∷ ks) a
  unfolding any
  known_more k ks a h = rw h (go (same k (key a)))
    where
      go : (x : Bool) → (x || true) ≡ true
      go true = refl
      go false = refl

  pub keys_known : (l : List A) → All (Known (map key l)) l
  keys_known [] = tt
  keys_known (a ∷ l) =
      ((unfold any in rw (same_refl (key a))), all_map _ _ l (λ b h. known_more (key a) (map key l) b h) (keys_known l))

  all_dropped : (P : A → Type 0) (l : List A) → All P l → All P (dropped key frame l)
  unfolding dropped keep_if
  all_dropped P [] h = tt
  all_dropped P (a ∷ l) h = go (any (same_slot key frame a) l) (all_dropped P l h.1)
    where
      go : (x : Bool) → All P (dropped key frame l) → All P (keep_if x a (dropped key frame l))
      go true k = (h.0, k)
      go false k = k

  slots : (n : List ℕ) (a : A) (l : List A) → n ≡ key a
      → any (same_slot key frame a) l ≡ any (λ b. eqb (frame a) (frame b)) (select (λ b. same n (key b)) l)
  unfolding same_slot
  slots n a l p = rw p (any_select (λ b. same (key a) (key b)) (λ b. eqb (frame a) (frame b)) l)

  -- what a track loses
  track_dropped : (n : List ℕ) (l : List A) → track key n (dropped key frame l) ≡ lost frame (track key n l)
  unfolding track dropped lost select keep_if
  track_dropped n [] = refl
  track_dropped n (a ∷ l) = go (names n (key a)) (any (same_slot key frame a) l) refl (track_dropped n l)
    where
      go : Names n (key a) → (x : Bool) → any (same_slot key frame a) l ≡ x
          → select (λ a. same n (key a)) (dropped key frame l) ≡ lost frame (select (λ a. same n (key a)) l)
          → select (λ a. same n (key a)) (keep_if x a (dropped key frame l)) ≡ lost frame (keep_if (same n (key a)) a (select (λ a. same n (key a)) l))
      go (equal p x y) true q e = let r = sym (slots n a l p) ∙ q in rw (x, r, e)
      go (equal p x y) false q e = let r = sym (slots n a l p) ∙ q in rw (x, r, e)
      go (apart x y) true q e = rw x e
      go (apart x y) false q e = rw x e

  lay_sum : (w : A → ℕ) (l : List A) (ns : List (List ℕ)) → sum_over w (lay key frame l ns) ≡ sum_over (λ n. sum_over w (lasts frame (track key n l))) ns
  unfolding lay sum_over
  lay_sum w l [] = refl
  lay_sum w l (n ∷ ns) = rw (sum_append w (lasts frame (track key n l)) (lay key frame l ns), lay_sum w l ns)

  -- LAW: whatever each record counts for, kept and dropped together make up the records read
  pub made_up : (w : A → ℕ) (l : List A) → sum_over w (tidy_section key frame l) + sum_over w (dropped key frame l) ≡ sum_over w l
  unfolding tidy_section
  made_up w l =
      let ns = distinct (map key l) in
      let d = dropped key frame l in
      rw (
        lay_sum w l ns,
        ← tracks_sum w (map key l) d (all_dropped _ l (keys_known l)),
        sum_add (λ n. sum_over w (lasts frame (track key n l))) (λ n. sum_over w (track key n d)) (λ n. sum_over w (track key n l)) ns
            (λ n. rw (track_dropped n l) (lasts_made_up frame w (track key n l))),
      )
      (tracks_sum w (map key l) l (keys_known l))

  -- LAW: so do those of them that pass any test: each record read is kept or dropped, and none is both
  pub kept_or_dropped : (f : A → Bool) (l : List A)
      → length (select f (tidy_section key frame l)) + length (select f (dropped key frame l)) ≡ length (select f l)
  kept_or_dropped f l =
      rw (← sum_passed f (tidy_section key frame l), ← sum_passed f (dropped key frame l), ← sum_passed f l) (made_up (λ a. one_if (f a)) l)

  -- LAW: and their numbers
  pub kept_and_dropped : (l : List A) → length (tidy_section key frame l) + length (dropped key frame l) ≡ length l
  kept_and_dropped l =
      rw (← sum_length (tidy_section key frame l), ← sum_length (dropped key frame l), ← sum_length l) (made_up (λ a. 1) l)

-- LAW: as many are kept by any number that tells tracks and frames apart
module _ {A : Type 0} (key : A → List ℕ) (frame f : A → ℕ) (P : A → Type 0) (tells : (a b : A) → P a → P b → eqb (f a) (f b) ≡ same_slot key frame a b) where
  any_tells : (a : A) → P a → (l : List A) → All P l → any (λ b. eqb (f a) (f b)) l ≡ any (same_slot key frame a) l
  unfolding any
  any_tells a p [] h = refl
  any_tells a p (b ∷ l) h = rw (tells a b p h.0, any_tells a p l h.1)

  lost_dropped : (l : List A) → All P l → lost f l ≡ dropped key frame l
  unfolding lost dropped
  lost_dropped [] h = refl
  lost_dropped (a ∷ l) h = rw (any_tells a h.0 l h.1, lost_dropped l h.1)

  pub kept_by_number : (l : List A) → All P l → length (lasts f l) ≡ length (tidy_section key frame l)
  kept_by_number l h =
      let e : length (lost f l) ≡ length (dropped key frame l) = ap length (lost_dropped l h) in
      omega (arith, lasts_lost f l, kept_and_dropped key frame l)
