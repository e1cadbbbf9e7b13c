-- Laws of text: decimal digits, and writes one after another. Assumes nothing.
use Prim.Native.Nat.{ℕ, zero, suc, ◌+◌, ◌*◌, ◌/◌, ◌%◌, ◌^◌, ◌≤◌, ◌<◌}
use mathlib.Core.Path.{◌≡◌, refl, sym, ap}
use mathlib.Core.Bool.{Bool, true, false}
use mathlib.Core.List.{List, [], ◌∷◌, ◌++◌, append_assoc}
use native.Mathlib.Nat.{pow-suc, lt_trans}
use native.Mathlib.Numerals.{add-one}
use native.Mathlib.Omega.{arith}
use borrow.Author.Tests.{lt-ltb, le-ltb, ltb-true, ltb-false}
use lib.Dec.{ltb, lit<}
use lib.ListN.{length, get_or, set, take, length-append}
use lib.Seq.{length-take-le, take-suc}
use Rattle.vmd_bytes.specs.Slices.{splice}
use Rattle.vmd_bytes.specs.Written.{Room, Wrote}
use Rattle.vmd_bytes.proofs.Laws.{length_splice, splice_nil, set_splice}
use Rattle.vmd_bytes.proofs.Writes.{rest_all, rest_then, rest_done}
use Rattle.vmd_text.specs.Text.{tens_if, digits, decimal, number_lines}

-- ---- decimal digits

-- the digits do not depend on how many there may be
digits_enough : (f g n : ℕ) → n < f → n < g → digits f n ≡ digits g n
unfolding digits tens_if
digits_enough zero g n h k = absurd (omega arith)
digits_enough (suc f) zero n h k = absurd (omega arith)
digits_enough (suc f) (suc g) n h k = ap (λ l. l ++ ((48 + n % 10) ∷ [])) (go (ltb n 10) refl (digits_enough f g (n / 10)))
  where
    go : (b : Bool) → ltb n 10 ≡ b → (n / 10 < f → n / 10 < g → digits f (n / 10) ≡ digits g (n / 10))
        → tens_if b (digits f (n / 10)) ≡ tens_if b (digits g (n / 10))
    go true e r = refl
    go false e r = let l = ltb-false n 10 e in r (omega arith) (omega arith)

-- one digit, and a digit more
decimal_one : (n : ℕ) → n < 10 → decimal n ≡ (48 + n % 10) ∷ []
unfolding decimal digits tens_if
decimal_one n h = rw (lt-ltb n 10 h)

decimal_more : (n : ℕ) → 10 ≤ n → decimal n ≡ decimal (n / 10) ++ ((48 + n % 10) ∷ [])
unfolding decimal digits tens_if
decimal_more n h = rw (le-ltb n 10 h) (ap (λ l. l ++ ((48 + n % 10) ∷ [])) (digits_enough n (suc (n / 10)) (n / 10) (omega arith) (omega arith)))

-- a number below a power of ten has at most so many digits
pub length_decimal : (k n : ℕ) → n < 10 ^ suc k → length (decimal n) ≤ suc k
length_decimal zero n h = rw (decimal_one n h) (omega arith)
length_decimal (suc k) n h = go (ltb n 10) refl (length_decimal k (n / 10))
  where
    go : (b : Bool) → ltb n 10 ≡ b → (n / 10 < 10 ^ suc k → length (decimal (n / 10)) ≤ suc k) → length (decimal n) ≤ suc (suc k)
    go true e r = rw (decimal_one n (ltb-true n 10 e)) (omega arith)
    go false e r =
        let p : 10 ^ suc (suc k) ≡ 10 ^ suc k * 10 = pow-suc 10 (suc k) in
        let q : n < 10 ^ suc k * 10 = rw p at h in
        rw (decimal_more n (ltb-false n 10 e)) (simp length-append (omega (arith, r (omega (arith, q)))))

-- a number of 64 bits has at most 20 digits
pub decimal_short : (n : ℕ) → n < 18446744073709551616 → length (decimal n) ≤ 20
decimal_short n h = length_decimal 19 n (lt_trans h (lit< tt))

-- ---- writes one after another

-- what is written at the front fits, for a caller that lends it on
pub front_fits : (l vs m : List ℕ) (r : ℕ) → m ≡ splice l 0 vs → r ≡ length vs → (r ≤ length m) × (r ≡ length (take r m))
unfolding splice
front_fits l vs m r e n =
    let h : r ≤ length m = omega (arith, simp length-append at (ap length e)) in
    (h, sym (length-take-le r m h))

module _ {l u m : List ℕ} {to at : ℕ} (w : Wrote l to u m at) where
  pub wrote_length : at ≤ length l → length m ≡ length l
  wrote_length h = rw w.holds (length_splice l to u (omega (arith, w.ends)))

  -- a write where another ends
  pub wrote_more : {v k : List ℕ} {end : ℕ} → Wrote m at v k end → end ≤ length l → Wrote l to (u ++ v) k end
  wrote_more {v} x h =
      let r : Room l to (u ++ v) = record { room = omega (arith, length-append u v, w.ends, x.ends) } in
      rest_done (rest_then v (rest_all r) w) x

  -- a store there
  pub wrote_byte : (a : ℕ) → at < length l → Wrote l to (u ++ (a ∷ [])) (set m at a) (at + 1)
  wrote_byte a h = wrote_more (record { holds = set_splice m at a (rw (wrote_length (omega arith)) h); ends = refl }) (omega arith)

-- nothing written yet
pub wrote_none : (l : List ℕ) (to : ℕ) → Wrote l to [] l to
wrote_none l to = record { holds = sym (splice_nil l to); ends = omega arith }

-- a number's only digit, and its last
module _ (l : List ℕ) (to n : ℕ) (h : to + 20 ≤ length l) where
  pub digit_one : n < 10 → Wrote l to (decimal n) (set l to (48 + n % 10)) (to + 1)
  digit_one k = rw (decimal_one n k) (wrote_byte (wrote_none l to) (48 + n % 10) (omega arith))

  pub digit_more : (m : List ℕ) (at : ℕ) → n < 18446744073709551616 → 10 ≤ n → Wrote l to (decimal (n / 10)) m at
      → (at < length m) × Wrote l to (decimal n) (set m at (48 + n % 10)) (at + 1)
  digit_more m at f k w =
      let d : decimal n ≡ decimal (n / 10) ++ ((48 + n % 10) ∷ []) = decimal_more n k in
      let s : length (decimal (n / 10)) + 1 ≤ 20 = omega (arith, ap length d, length-append (decimal (n / 10)) ((48 + n % 10) ∷ []), decimal_short n f) in
      let r : at < length l = omega (arith, w.ends) in
      (omega (arith, wrote_length w (omega arith)), rw d (wrote_byte w (48 + n % 10) r))

-- ---- numbers, each on a line

-- a number of 32 bits has at most ten digits
pub decimal_of_word : (n : ℕ) → n < 4294967296 → length (decimal n) ≤ 10
decimal_of_word n h = length_decimal 9 n (lt_trans h (lit< tt))

lines_snoc : (l : List ℕ) (n : ℕ) → number_lines (l ++ (n ∷ [])) ≡ number_lines l ++ decimal n ++ (10 ∷ [])
unfolding number_lines
lines_snoc [] n = refl
lines_snoc (a ∷ l) n = rw (lines_snoc l n) (simp append_assoc)

pub lines_turn : (ws o out k : List ℕ) (at i end : ℕ) → i < length ws → Wrote o 0 (number_lines (take i ws)) out at
    → Wrote out at (decimal (get_or ws i 0)) k end → end < length o → Wrote o 0 (number_lines (take (i + 1) ws)) (set k end 10) (end + 1)
lines_turn ws o out k at i end h w d r =
    rw (add-one i, take-suc ws i 0 h, lines_snoc (take i ws) (get_or ws i 0)) (wrote_byte (wrote_more w d (omega arith)) 10 r)
