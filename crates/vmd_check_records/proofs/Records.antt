-- Laws of record bytes for code: floats by their bits, each record's check, and a loop over records. Assumes nothing.
use Prim.Native.Nat.{ℕ, zero, suc, ◌+◌, ◌-◌, ◌*◌, ◌/◌, ◌%◌, ◌≤◌, ◌<◌}
use mathlib.Core.Path.{◌≡◌, refl, ap, ap₂, sym, ◌∙◌}
use mathlib.Core.Bool.{Bool, true, false, ◌&&◌}
use mathlib.Core.List.{List}
use native.Mathlib.Nat.{add-zero, add-sub_cancel_left}
use native.Mathlib.Omega.{arith}
use borrow.Author.Tests.{eqb-true}
use lib.ListN.{length, get_or, take, drop}
use lib.Seq.{drop-drop, get_or-drop}
use lib.Dec.{leb}
use Rattle.vmd_format.specs.Bytes.{u32, before_zero}
use Rattle.vmd_format.specs.Layout.{Layout, number, byte, name, ◌⊗◌, as_record}
use Rattle.vmd_format.specs.Names.{good}
use Rattle.vmd_format.specs.Read.{table}
use Rattle.vmd_format.specs.Records.{camera, light, self_shadow, ik_state}
use Rattle.vmd_format.specs.Refusal.{not_finite, self_shadow_unfit, name_not_good}
use Rattle.vmd_format.specs.Parts.{Check, ◌next◌, need, each, finite, records_of, upto, no_bytes_over, camera_check, light_check, self_shadow_check, ik_check}
use Rattle.vmd_laws.specs.SizedLaws.{Sized}
use Rattle.vmd_check_records.specs.Stages.{finite_words}

-- ---- floats one after another

-- what holds before each turn: b says whether those before number i are finite
pub record Words (s : List ℕ) (at n i : ℕ) (b : Bool) : Type 0 where
  pub whole : finite_words b (n - i) (drop (at + i * 4) s) ≡ finite_words true n (drop at s)

module _ {s : List ℕ} {at n : ℕ} where
  pub words_start : Words s at n 0 true
  words_start =
      let a : at + 0 * 4 ≡ at = omega arith in
      let m : n - 0 ≡ n = omega arith in
      record { whole = rw (a, m) }

  module _ {i : ℕ} {b : Bool} (g : Words s at n i b) where
    pub words_turn : i < n → {bits : ℕ} {r : Bool} → bits ≡ u32 (drop (at + i * 4) s) → r ≡ finite bits → Words s at n (i + 1) (b && r)
    unfolding finite_words
    words_turn h e f =
        let d : n - i ≡ suc (n - (i + 1)) = omega arith in
        let p : at + i * 4 + 4 ≡ at + (i + 1) * 4 = omega arith in
        record { whole = rw (f, e, ← p, ← drop-drop 4 (at + i * 4) s) (rw d at g.whole) }

    pub words_end : n ≤ i → b ≡ finite_words true n (drop at s)
    unfolding finite_words
    words_end h = let d : n - i ≡ 0 = omega arith in rw d at g.whole

-- ---- each record's check, at a place

module _ (s : List ℕ) (at : ℕ) where
  pub camera_there : need (finite_words true 7 (drop (at + 4) s)) not_finite ≡ camera_check (camera.decode (drop at s))
  unfolding camera_check camera as_record ◌⊗◌ number finite_words
  camera_there = rw (← drop-drop 4 at s)

  pub light_there : need (finite_words true 6 (drop (at + 4) s)) not_finite ≡ light_check (light.decode (drop at s))
  unfolding light_check light as_record ◌⊗◌ number finite_words
  light_there = rw (← drop-drop 4 at s)

  self_shadow_there : need (finite_words true 1 (drop (at + 5) s) && leb (get_or s (at + 4) 0) 2) self_shadow_unfit
      ≡ self_shadow_check (self_shadow.decode (drop at s))
  unfolding self_shadow_check self_shadow as_record ◌⊗◌ number byte finite_words
  self_shadow_there =
      ap₂ (λ x y. need (finite (u32 x) && leb y 2) self_shadow_unfit)
      (sym (drop-drop 1 4 (drop at s) ∙ drop-drop 5 at s))
      (sym (ap (λ l. get_or l 0 0) (drop-drop 4 at s) ∙ get_or-drop (at + 4) s 0 0 ∙ ap (λ i. get_or s i 0) (add-zero (at + 4))))

  ik_there : need (good (before_zero (take 20 (drop at s)))) name_not_good ≡ ik_check (ik_state.decode (drop at s))
  unfolding ik_check ik_state as_record ◌⊗◌ name
  ik_there = refl

-- ---- records one after another

-- to check n records by their numbers, from number i on, is to check the table of them: p is where a record is
module _ {A : Type 0} {K : Layout A} {w : ℕ} (f : A → Check) (k : Sized K w) (s : List ℕ) where
  pub in_turn : (p : ℕ → ℕ) → ((i : ℕ) → p i + w ≡ p (suc i)) → (n i : ℕ) → each (λ j. f (K.decode (drop (p j) s))) (upto i n) ≡ each f (table K n (drop (p i) s))
  unfolding upto each table
  in_turn p h zero i = refl
  in_turn p h (suc n) i =
      ap (λ c. f (K.decode (drop (p i) s)) next c)
      (in_turn p h n (suc i) ∙ ap (λ t. each f (table K n t)) (ap (λ j. drop j s) (sym (h i)) ∙ sym (ap (λ j. drop j (drop (p i) s)) k.size ∙ drop-drop w (p i) s)))

  -- a whole slice of records
  pub slice_in_turn : {c : Check} → c ≡ each (λ j. f (K.decode (drop (j * w) s))) (upto 0 (length s / w)) → c ≡ each f (records_of K s)
  unfolding records_of
  slice_in_turn e =
      let z : 0 * w ≡ 0 = omega arith in
      e ∙ in_turn (λ j. j * w) (λ i. omega arith) (length s / w) 0 ∙ rw (z, k.size)

-- ---- a self-shadow's check: its distance, and then its mode

module _ (s : List ℕ) (at : ℕ) {r b : Bool} {c : Check} (e : r ≡ finite_words true 1 (drop (at + 5) s)) (h : c ≡ need b self_shadow_unfit) where
  pub shadow_mode : r ≡ true → b ≡ leb (get_or s (at + 4) 0) 2 → c ≡ self_shadow_check (self_shadow.decode (drop at s))
  shadow_mode t q = rw (← self_shadow_there s at, ← e, t) (h ∙ ap (λ x. need x self_shadow_unfit) q)

  pub shadow_distance : r ≡ false → b ≡ r → c ≡ self_shadow_check (self_shadow.decode (drop at s))
  shadow_distance t q = rw (← self_shadow_there s at, ← e, t) (h ∙ ap (λ x. need x self_shadow_unfit) (q ∙ t))

-- ---- an IK state's check

pub ik_is : (s : List ℕ) (at : ℕ) {r : Bool} {c : Check} → r ≡ good (before_zero (take (at + 20 - at) (drop at s))) → c ≡ need r name_not_good
    → c ≡ ik_check (ik_state.decode (drop at s))
ik_is s at e h =
    h ∙ ap (λ b. need b name_not_good) (e ∙ ap (λ i. good (before_zero (take i (drop at s)))) (add-sub_cancel_left at 20)) ∙ ik_there s at

-- ---- whole records

module _ {A : Type 0} {K : Layout A} {w : ℕ} (k : Sized K w) (s : List ℕ) where
  pub over_none : no_bytes_over K s ≡ true → length s % w ≡ 0
  unfolding no_bytes_over
  over_none h = rw k.size at (eqb-true (length s % K.size) 0 h)
