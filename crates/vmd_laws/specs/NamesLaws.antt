-- The name test reads left to right: it passes a good single byte or a good pair, and stops at anything else.
use Rattle.std.specs.Prelude.{ℕ, zero, suc, ◌+◌, ◌≤◌, ◌<◌, ◌≡◌, refl, Bool, true, false, ◌&&◌, cond, length, get_or, drop, eqb}
use Rattle.std.proofs.Common.{ap, sym, ◌∙◌, arith, not-suc-le-zero, length-drop, drop_of_length-le, drop-drop, eqb-true, eq-eqb, ne_eqb}
use mathlib.Core.List.{List, [], ◌∷◌}
use Rattle.std.proofs.Math.Seq.{drop-cons, drop-length}
use Rattle.std.proofs.lemmas.Bool.{eqb-false}
use Rattle.vmd_format.specs.Bytes.{before_zero}
use Rattle.vmd_format.specs.Characters.{between}
use Rattle.vmd_format.specs.Names.{single, lead, trail, pair, unit, past, fault_within, fault, good}

-- ---- what stands at the front

-- its cases, for code: the byte at a place and the byte after it
module _ (s : List ℕ) (i : ℕ) where
  pub unit_end : length s ≤ i → unit (drop i s) ≡ 0
  unfolding unit
  unit_end h = rw (drop_of_length-le s h)

  pub unit_single : i < length s → single (get_or s i 0) ≡ true → unit (drop i s) ≡ 1
  unfolding unit
  unit_single h e = rw (drop-cons s i 0 h) (go (drop (suc i) s))
    where
      go : (t : List ℕ) → unit (get_or s i 0 ∷ t) ≡ 1
      go [] = rw e
      go (b ∷ t) = rw e

  -- the last byte
  pub unit_cut : suc i ≡ length s → single (get_or s i 0) ≡ false → unit (drop i s) ≡ 0
  unfolding unit
  unit_cut h e = rw (drop-cons s i 0 (omega arith), h, drop-length s, e)

  pub unit_two : suc i < length s → single (get_or s i 0) ≡ false → unit (drop i s) ≡ cond (pair (get_or s i 0) (get_or s (suc i) 0)) 2 0
  unfolding unit
  unit_two h e = rw (drop-cons s i 0 (omega arith), drop-cons s (suc i) 0 h, e)

pub unit_le : (s : List ℕ) → unit s ≤ length s
unfolding unit
unit_le [] = omega arith
unit_le (a ∷ []) = go (single a)
  where
    go : (x : Bool) → cond x 1 0 ≤ 1
    go true = omega arith
    go false = omega arith
unit_le (a ∷ b ∷ s) = go (single a) (pair a b)
  where
    go : (x y : Bool) → cond x 1 (cond y 2 0) ≤ suc (suc (length s))
    go true y = omega arith
    go false true = omega arith
    go false false = omega arith

-- ---- the place of the fault

past_same : (u : ℕ) (f g : List ℕ → ℕ) (s : List ℕ) → (0 < u → f (drop u s) ≡ g (drop u s)) → past u f s ≡ past u g s
unfolding past
past_same zero f g s h = refl
past_same (suc u) f g s h = ap (λ n. suc u + n) (h (omega arith))

-- any fuel that suffices finds the same place
within_same : (n m : ℕ) (s : List ℕ) → length s ≤ n → length s ≤ m → fault_within n s ≡ fault_within m s
unfolding fault_within past unit
within_same zero zero s h k = refl
within_same zero (suc m) [] h k = refl
within_same zero (suc m) (b ∷ s) h k = absurd (not-suc-le-zero h)
within_same (suc n) zero [] h k = refl
within_same (suc n) zero (b ∷ s) h k = absurd (not-suc-le-zero k)
within_same (suc n) (suc m) s h k =
    past_same (unit s) (fault_within n) (fault_within m) s λ p.
    within_same n m (drop (unit s) s) (rw length-drop (omega arith)) (rw length-drop (omega arith))

pub fault_fuel : (n : ℕ) (s : List ℕ) → length s ≤ n → fault_within n s ≡ fault s
unfolding fault
fault_fuel n s h = within_same n (length s) s h (omega arith)

pub fault_none : (s : List ℕ) → unit s ≡ 0 → fault s ≡ 0
unfolding fault_within past
fault_none s h = sym (fault_fuel (suc (length s)) s (omega arith)) ∙ rw h

past_front : (u : ℕ) (f : List ℕ → ℕ) (s : List ℕ) → 0 < u → past u f s ≡ u + f (drop u s)
unfolding past
past_front zero f s h = absurd (omega arith)
past_front (suc u) f s h = refl

pub fault_unit : (s : List ℕ) → 0 < unit s → fault s ≡ unit s + fault (drop (unit s) s)
unfolding fault_within
fault_unit s h =
    sym (fault_fuel (suc (length s)) s (omega arith))
    ∙ past_same (unit s) (fault_within (length s)) fault s (λ p. fault_fuel (length s) (drop (unit s) s) (rw length-drop (omega arith)))
    ∙ past_front (unit s) fault s h

-- ---- a loop over the places: all before this one is good

abbrev pub GoodTo : List ℕ → ℕ → Type 0
GoodTo s i = fault s ≡ i + fault (drop i s)

pub fault_start : (s : List ℕ) → GoodTo s 0
fault_start s = omega arith

pub fault_step : (s : List ℕ) (i : ℕ) → GoodTo s i → 0 < unit (drop i s) → GoodTo s (i + unit (drop i s))
fault_step s i h k = rw (← drop-drop (unit (drop i s)) i s) (omega (arith, fault_unit (drop i s) k))

pub fault_stop : (s : List ℕ) (i : ℕ) → GoodTo s i → unit (drop i s) ≡ 0 → fault s ≡ i
fault_stop s i h k = omega (arith, fault_none (drop i s) k)

-- ---- a name in its field: what stands before the first zero byte

eqb_both : (k m n : ℕ) → eqb (k + m) (k + n) ≡ eqb m n
eqb_both k m n = go (eqb m n) refl
  where
    go : (x : Bool) → eqb m n ≡ x → eqb (k + m) (k + n) ≡ eqb m n
    go true e = rw e (eq-eqb (k + m) (k + n) (omega (arith, eqb-true m n e)))
    go false e = rw e (ne_eqb (k + m) (k + n) (λ q. eqb-false m n e (omega arith)))

-- what is passed over changes nothing
good_past : (s : List ℕ) → 0 < unit s → good s ≡ good (drop (unit s) s)
unfolding good
good_past s h =
    let l : length s ≡ unit s + length (drop (unit s) s) = omega (arith, length-drop (unit s) s, unit_le s) in
    rw (fault_unit s h, l) (eqb_both (unit s) (fault (drop (unit s) s)) (length (drop (unit s) s)))

-- a zero byte is no trail, so the name's front is the field's
unit_before : (s : List ℕ) → (get_or s 0 0 ≡ 0 → ⊥) → unit (before_zero s) ≡ unit s
unfolding before_zero unit pair trail between
unit_before [] h = refl
unit_before (zero ∷ s) h = absurd (h refl)
unit_before (suc a ∷ []) h = refl
unit_before (suc a ∷ zero ∷ s) h = go (single (suc a)) (lead (suc a))
  where
    go : (x y : Bool) → ◌≡◌ {A = ℕ} (cond x 1 0) (cond x 1 (cond (y && false) 2 0))
    go true y = refl
    go false true = refl
    go false false = refl
unit_before (suc a ∷ suc b ∷ s) h = refl

drop_before : (n : ℕ) (s : List ℕ) → n ≤ length (before_zero s) → drop n (before_zero s) ≡ before_zero (drop n s)
unfolding before_zero
drop_before zero s h = refl
drop_before (suc n) [] h = refl
drop_before (suc n) (zero ∷ s) h = absurd (omega arith)
drop_before (suc n) (suc b ∷ s) h = drop_before n s (omega arith)

-- a field is good as what is left of it is ..
pub field_past : (s : List ℕ) → (get_or s 0 0 ≡ 0 → ⊥) → 0 < unit s → good (before_zero s) ≡ good (before_zero (drop (unit s) s))
field_past s z h =
    let e = unit_before s z in
    let t = before_zero s in
    good_past t (rw e h) ∙ ap good (drop_before (unit t) s (unit_le t)) ∙ ap (λ n. good (before_zero (drop n s))) e

-- .. not good where neither starts before a zero byte ..
pub field_stop : (s : List ℕ) → (get_or s 0 0 ≡ 0 → ⊥) → unit s ≡ 0 → good (before_zero s) ≡ false
unfolding good before_zero
field_stop [] z h = absurd (z refl)
field_stop (zero ∷ s) z h = absurd (z refl)
field_stop (suc b ∷ s) z h =
    let t = before_zero (suc b ∷ s) in
    let e : fault t ≡ 0 = fault_none t (unit_before (suc b ∷ s) z ∙ h) in
    ne_eqb (fault t) (length t) (λ q. omega (arith, e, q))

-- .. and good at its zero byte, or at its end
pub field_end : (s : List ℕ) → get_or s 0 0 ≡ 0 → good (before_zero s) ≡ true
unfolding good before_zero fault fault_within
field_end [] h = refl
field_end (zero ∷ s) h = refl
field_end (suc b ∷ s) h = absurd (omega arith)
