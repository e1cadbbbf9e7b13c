-- The table's agreement with the runs: one test that is computed, carried to each pointer. Assumes nothing.
use Prim.Native.Nat.{ℕ, zero, suc, ◌+◌, ◌*◌, ◌/◌, ◌%◌, ◌^◌, ◌<◌}
use mathlib.Core.Path.{◌≡◌, refl, sym, ◌∙◌, ap}
use mathlib.Core.Bool.{Bool, true, false, ◌&&◌}
use mathlib.Core.List.{List, [], ◌∷◌}
use native.Mathlib.Omega.{arith}
use native.Mathlib.Nat.{div-div-eq-div-mul, pow-succ', pow-zero, div-one}
use lib.ListN.{length, get_or}
use lib.Dec.{eqb, T}
use lib.Ieee.Fits.{and_l, and_r}
use Rattle.vmd_format.specs.Characters.{between, in_index, character}
use Rattle.vmd_presence.specs.Presence.{bit, Presence}

abbrev alike : Bool → Bool → Bool
alike true b = b
alike false true = false
alike false false = true

-- the lowest bits of a word, one after another, are those of the pointers from p on
abbrev word_right : ℕ → ℕ → ℕ → Bool
word_right zero p x = true
word_right (suc n) p x = alike (eqb (x % 2) 1) (in_index p) && word_right n (suc p) (x / 2)

-- and so of each word
abbrev words_right : ℕ → List ℕ → Bool
words_right p [] = true
words_right p (x ∷ l) = word_right 32 p x && words_right (p + 32) l

alike_same : (a b : Bool) → T (alike a b) → a ≡ b
alike_same true true t = refl
alike_same true false t = absurd t
alike_same false true t = absurd t
alike_same false false t = refl

-- the next bit of a number is the lowest but one of its half
halved : (x k : ℕ) → x / 2 / 2 ^ k ≡ x / 2 ^ suc k
halved x k = div-div-eq-div-mul x 2 (2 ^ k) ∙ ap (λ (n : ℕ). x / n) (sym (pow-succ' 2 k))

word_bit : (n p x : ℕ) → T (word_right n p x) → (k : ℕ) → k < n → eqb (x / 2 ^ k % 2) 1 ≡ in_index (p + k)
word_bit zero p x t k h = absurd (omega arith)
word_bit (suc n) p x t zero h =
    let e : eqb (x % 2) 1 ≡ in_index p = alike_same (eqb (x % 2) 1) (in_index p) (and_l (alike (eqb (x % 2) 1) (in_index p)) (word_right n (suc p) (x / 2)) t) in
    rw (pow-zero 2, div-one x, e) (ap in_index (omega arith))
word_bit (suc n) p x t (suc k) h =
    rw (← halved x k) (word_bit n (suc p) (x / 2) (and_r (alike (eqb (x % 2) 1) (in_index p)) (word_right n (suc p) (x / 2)) t) k (omega arith) ∙ ap in_index (omega arith))

words_bit : (p : ℕ) (l : List ℕ) → T (words_right p l) → (i k : ℕ) → i < length l → k < 32 → eqb (get_or l i 0 / 2 ^ k % 2) 1 ≡ in_index (p + 32 * i + k)
words_bit p [] t i k h b = absurd (omega arith)
words_bit p (x ∷ l) t zero k h b = word_bit 32 p x (and_l (word_right 32 p x) (words_right (p + 32) l) t) k b ∙ ap in_index (omega arith)
words_bit p (x ∷ l) t (suc i) k h b = words_bit (p + 32) l (and_r (word_right 32 p x) (words_right (p + 32) l) t) i k (omega arith) b ∙ ap in_index (omega arith)

-- a list of 353 words that passes the test is the presence table
pub right : {l : List ℕ} → length l ≡ 353 → T (words_right 0 l) → Presence l
unfolding bit
right {l} e t = record { long = e; bits = λ (p : ℕ) (h : p < 11296). words_bit 0 l t (p / 32) (p % 32) (omega arith) (omega arith) ∙ ap in_index (omega arith) }

-- ---- what a bit says of a pointer

module _ {words : List ℕ} (w : Presence words) (p : ℕ) (h : p < 11280) {r : Bool} (e : r ≡ bit words p) where
  pub in_table : r ≡ true → r ≡ character p
  unfolding character
  in_table t = rw (← w.bits p (omega arith), ← e, t)

  pub outside : r ≡ false → {q : Bool} → q ≡ between 8836 10715 p → q ≡ character p
  unfolding character
  outside f q = rw (← w.bits p (omega arith), ← e, f) q
