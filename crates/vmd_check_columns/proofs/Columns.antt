-- Laws of columns for code: their lengths, floats one after another, and a loop over the records. Assumes nothing.
use Prim.Native.Nat.{ℕ, zero, suc, ◌+◌, ◌-◌, ◌*◌, ◌/◌, ◌%◌, ◌≤◌, ◌<◌}
use mathlib.Core.Path.{◌≡◌, refl, ap, sym, ◌∙◌}
use mathlib.Core.Bool.{Bool, true, false, ◌&&◌, and-eq-true_iff}
use mathlib.Core.List.{List, [], ◌∷◌}
use native.Mathlib.Nat.{div-add-mod', mul_comm, mul-mod_right, mul-div_right, add-zero, add-sub_cancel_left}
use native.Mathlib.Numerals.{add-one}
use native.Mathlib.Omega.{arith}
use borrow.Author.Tests.{eqb-true, eqb-false, eq-eqb, ne_eqb, le-leb, leb-true}
use lib.ListN.{length, get_or, take, drop, drop_of_length-le, length-map, get_or-map}
use lib.Seq.{drop-cons}
use Rattle.std.proofs.lemmas.List.{take-map, drop-map}
use lib.Dec.{eqb, leb}
use Rattle.std.specs.Prelude.{◌↔◌, IsTrue, EachIndex}
use lib.Ieee.{Float, nan, binary32, to_bits}
use Rattle.vmd_format.specs.Parts.{finite, all_finite}
use Rattle.vmd_check_columns.specs.Meaning.{bits}

-- ---- a length that is k times a number

module _ (len k n : ℕ) (h : 0 < k) where
  pub times_over : (len % k ≡ 0 → ⊥) → eqb (len % k) 0 ≡ eqb len (k * n)
  times_over z = ne_eqb (len % k) 0 z ∙ sym (ne_eqb len (k * n) (λ e. z (ap (λ x. x % k) e ∙ mul-mod_right k n)))

  pub times_even : len % k ≡ 0 → eqb (len / k) n ≡ eqb len (k * n)
  times_even z = go (eqb (len / k) n) refl
    where
      whole : len ≡ k * (len / k)
      whole = sym (div-add-mod' len k) ∙ ap (λ x. len / k * k + x) z ∙ add-zero (len / k * k) ∙ mul_comm (len / k) k

      go : (b : Bool) → eqb (len / k) n ≡ b → b ≡ eqb len (k * n)
      go true e = sym (eq-eqb len (k * n) (whole ∙ ap (λ x. k * x) (eqb-true (len / k) n e)))
      go false e = sym (ne_eqb len (k * n) (λ q. eqb-false (len / k) n e (ap (λ x. x / k) q ∙ mul-div_right n h)))

-- ---- floats of a column, one after another

get_d_any : {A : Type 0} (l : List A) (i : ℕ) (d e : A) → i < length l → get_or l i d ≡ get_or l i e
get_d_any [] i d e h = absurd (omega arith)
get_d_any (a ∷ l) zero d e h = refl
get_d_any (a ∷ l) (suc i) d e h = get_d_any l i d e (omega arith)

pub bits_at : (xs : List Float) (i : ℕ) → i < length xs → get_or (bits xs) i 0 ≡ to_bits binary32 (get_or xs i nan)
bits_at xs i h =
    get_d_any (bits xs) i 0 (to_bits binary32 nan) (rw (length-map xs (to_bits binary32)) h) ∙ get_or-map (to_bits binary32) xs i nan

pub bits_cons : (xs : List Float) (p : ℕ) → p < length xs → drop p (bits xs) ≡ to_bits binary32 (get_or xs p nan) ∷ drop (p + 1) (bits xs)
bits_cons xs p h =
    drop-cons (bits xs) p 0 (rw (length-map xs (to_bits binary32)) h) ∙ rw (bits_at xs p h, add-one)

pub bits_part : (xs : List Float) (at n : ℕ) → bits (take (at + n - at) (drop at xs)) ≡ take n (drop at (bits xs))
bits_part xs at n = rw (add-sub_cancel_left at n, drop-map (to_bits binary32) at xs, take-map (to_bits binary32) n (drop at xs))

-- what holds before each turn: those from p on are finite just where all are
pub record Floats (xs : List Float) (p : ℕ) : Type 0 where
  pub whole : all_finite (drop p (bits xs)) ≡ all_finite (bits xs)

module _ {xs : List Float} where
  pub floats_start : Floats xs 0
  floats_start = record { whole = refl }

  module _ {p : ℕ} (g : Floats xs p) where
    turns : p < length xs → (finite (to_bits binary32 (get_or xs p nan)) && all_finite (drop (p + 1) (bits xs))) ≡ all_finite (bits xs)
    unfolding all_finite
    turns h = sym (ap all_finite (bits_cons xs p h)) ∙ g.whole

    pub floats_fail : {r : Bool} → p < length xs → r ≡ finite (to_bits binary32 (get_or xs p nan)) → r ≡ false → false ≡ all_finite (bits xs)
    floats_fail h e f = ap (λ b. b && all_finite (drop (p + 1) (bits xs))) (sym f ∙ e) ∙ turns h

    pub floats_turn : {r : Bool} → p < length xs → r ≡ finite (to_bits binary32 (get_or xs p nan)) → r ≡ true → Floats xs (p + 1)
    floats_turn h e f = record { whole = ap (λ b. b && all_finite (drop (p + 1) (bits xs))) (sym f ∙ e) ∙ turns h }

    pub floats_end : length xs ≤ p → true ≡ all_finite (bits xs)
    unfolding all_finite
    floats_end h =
        let l : length (bits xs) ≤ p = rw (length-map xs (to_bits binary32)) h in
        rw (drop_of_length-le (bits xs) l) at g.whole

-- ---- numbers in a list, all up to a limit

module _ (most : ℕ) where
  abbrev small : List ℕ → Bool
  small [] = true
  small (n ∷ l) = leb n most && small l

  small_each : (l : List ℕ) → small l ≡ true → (k : ℕ) → k < length l → get_or l k 0 ≤ most
  small_each [] e k h = absurd (omega arith)
  small_each (n ∷ l) e zero h = leb-true n most ((and-eq-true_iff (leb n most) (small l)).0 e).0
  small_each (n ∷ l) e (suc k) h = small_each l ((and-eq-true_iff (leb n most) (small l)).0 e).1 k (omega arith)

  each_small : (l : List ℕ) → ((k : ℕ) → k < length l → get_or l k 0 ≤ most) → small l ≡ true
  each_small [] e = refl
  each_small (n ∷ l) e = (and-eq-true_iff (leb n most) (small l)).1 (le-leb n most (e 0 (omega arith)), each_small l (λ k h. e (suc k) (omega arith)))

  pub all_small : (l : List ℕ) {r : Bool} → (IsTrue r ↔ EachIndex l (λ k. get_or l k 0 ≤ most)) → r ≡ small l
  all_small l {r = true} h = sym (each_small l (h.0 refl))
  all_small l {r = false} h = go (small l) refl
    where
      go : (b : Bool) → small l ≡ b → false ≡ b
      go true e = h.1 (small_each l e)
      go false e = refl
