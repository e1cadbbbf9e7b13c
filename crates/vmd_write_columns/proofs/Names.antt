-- Laws of the names of a table, and of writing them by words. Assumes nothing.
use Prim.Native.Nat.{ℕ, zero, suc, ◌+◌, ◌-◌, ◌*◌, ◌/◌, ◌%◌, ◌^◌, ◌≤◌, ◌<◌}
use mathlib.Core.Path.{◌≡◌, refl, ap, sym, ◌∙◌}
use mathlib.Core.Bool.{Bool, true, cond, ◌&&◌, and-eq-true_iff}
use mathlib.Core.List.{List, [], ◌∷◌, ◌++◌}
use mathlib.Core.Logic.{⊎_elim}
use native.Mathlib.Nat.{mod-lt, div-add-mod', mod-eq_of_lt, zero-add, suc-add, suc-ne-zero, eq-zero-or-pos, eq-or-lt_of_le, le_of_suc-le-suc}
use native.Mathlib.Omega.{arith}
use borrow.Author.Tests.{leb-true, eqb-true, ne_eqb}
use lib.Bits.{bit_and, and_block, and_mask, and_zero_r}
use lib.Dec.{eqb}
use lib.ListN.{length, get_or, take, drop}
use lib.Seq.{drop-nil}
use Rattle.vmd_format.specs.Bytes.{u32_bytes, padded}
use Rattle.vmd_laws.specs.BytesLaws.{padded_length}
use Rattle.vmd_format.specs.Refusal.{name_unfit}
use Rattle.vmd_format.specs.Parts.{passes, each, names_from, names_of, table_right, name_check}
use Rattle.vmd_laws.specs.PartsLaws.{all_at, next_passes, need_passes, each_passes}
use Rattle.vmd_bytes.specs.Slices.{splice, run}
use Rattle.vmd_bytes.specs.Words.{digits, repeated}
use Rattle.vmd_bytes.proofs.Laws.{splice_append_at, splice_over_end, length_run, take_run, drop_run, length_u32_bytes}
use Rattle.vmd_bytes.proofs.Words.{length_digits, digits_block}
use Rattle.vmd_check_tables.specs.Meaning.{table_of}
use Rattle.vmd_check_tables.proofs.Tables.{table_between, table_name_there}

-- ---- the low bytes of a word

-- the mask of the n lowest of eight bytes: a test of all nine
abbrev mask : ℕ → ℕ
mask n = 18446744073709551615 / 2 ^ (4 * (8 - n)) / 2 ^ (4 * (8 - n))

tested : ℕ → Bool
tested zero = true
tested (suc n) = tested n && eqb (mask n) (repeated 255 n)

all_tested : tested 9 ≡ true
unfolding tested repeated
all_tested = refl

tested_at : (n k : ℕ) → k < n → tested n ≡ true → mask k ≡ repeated 255 k
unfolding tested
tested_at zero k h t = absurd (omega arith)
tested_at (suc n) k h t =
    let p = (and-eq-true_iff (tested n) (eqb (mask n) (repeated 255 n))).0 t in
    ⊎_elim (λ (q : k ≡ n). rw q (eqb-true (mask n) (repeated 255 n) p.1)) (λ (m : k < n). tested_at n k m p.0) (eq-or-lt_of_le (le_of_suc-le-suc h))

digits_none : (m : ℕ) → digits m 0 ≡ padded m []
unfolding digits padded
digits_none zero = refl
digits_none (suc m) = ap (λ (t : List ℕ). 0 ∷ t) (digits_none m)

low_at : (m n a b : ℕ) → b < 256 → digits m (bit_and a (repeated 255 n)) ≡ padded m (take n (digits m a))
    → digits (suc m) (bit_and (a * 256 + b) (repeated 255 (suc n))) ≡ padded (suc m) (take (suc n) (digits (suc m) (a * 256 + b)))
unfolding repeated padded
low_at m n a b h e =
    rw (and_block 8 a (repeated 255 n) b 255 h (omega arith), and_mask b 8, mod-eq_of_lt h, digits_block m (bit_and a (repeated 255 n)) b h, digits_block m a b h, e)

digits_low : (m n x : ℕ) → digits m (bit_and x (repeated 255 n)) ≡ padded m (take n (digits m x))
unfolding digits repeated padded
digits_low m zero x = rw (and_zero_r x) (digits_none m)
digits_low zero (suc n) x = refl
digits_low (suc m) (suc n) x =
    rw (sym (div-add-mod' x 256)) (low_at m n (x / 256) (x % 256) (mod-lt x (omega arith)) (digits_low m n (x / 256)))

pub word_low : (x n : ℕ) → n ≤ 8 → digits 8 (bit_and x (mask n)) ≡ padded 8 (take n (digits 8 x))
word_low x n h = rw (tested_at 9 n (omega arith) all_tested) (digits_low 8 n x)

-- ---- a name in two words

padded_append : (m p : ℕ) (s : List ℕ) → padded (m + p) s ≡ padded m s ++ padded p (drop m s)
unfolding padded
padded_append zero p s = rw (zero-add p)
padded_append (suc m) p [] = rw (suc-add m p) (ap (λ (t : List ℕ). 0 ∷ t) (padded_append m p [] ∙ ap (λ (t : List ℕ). padded m [] ++ padded p t) (drop-nil m)))
padded_append (suc m) p (b ∷ s) = rw (suc-add m p) (ap (λ (t : List ℕ). b ∷ t) (padded_append m p s))

padded_cut : (m : ℕ) (s : List ℕ) → padded m (take m s) ≡ padded m s
unfolding padded
padded_cut zero s = refl
padded_cut (suc m) [] = refl
padded_cut (suc m) (b ∷ s) = ap (λ (t : List ℕ). b ∷ t) (padded_cut m s)

module _ (s : List ℕ) (at n : ℕ) where
  first_word : padded 8 (run s at (n - (n - 8))) ≡ padded 8 (run s at n)
  first_word =
      ⊎_elim
      (λ (h : n - 8 ≡ 0). let q : n - (n - 8) ≡ n = omega arith in rw q)
      (λ (h : 0 < n - 8). let q : n - (n - 8) ≡ 8 = omega arith in rw q (sym (ap (padded 8) (take_run s at n 8 (omega arith))) ∙ padded_cut 8 (run s at n)))
      (eq-zero-or-pos (n - 8))

  two_words : n ≤ 16 → padded 8 (take (n - (n - 8)) (run s at 8)) ++ padded 8 (take (n - 8) (run s (at + 8) 8)) ≡ padded 16 (run s at n)
  two_words h =
      rw (take_run s at 8 (n - (n - 8)) (omega arith), take_run s (at + 8) 8 (n - 8) (omega arith), first_word)
      (sym (padded_append 8 8 (run s at n) ∙ ap (λ (t : List ℕ). padded 8 (run s at n) ++ padded 8 t) (drop_run s at n 8)))

pub name_written : {p : ℕ} {a o : List ℕ} (x y u v : ℕ) (s : List ℕ) (at n : ℕ) (l : List ℕ) (to : ℕ) → n ≤ 15 → to + 16 ≤ length l → p ≡ n - 8
    → digits 8 x ≡ run s at 8 → digits 8 u ≡ padded 8 (take (n - p) (digits 8 x)) → digits 8 y ≡ run s (at + 8) 8 → digits 8 v ≡ padded 8 (take p (digits 8 y))
    → a ≡ splice l to (digits 8 u) → o ≡ splice a (to + 8) (digits 8 v)
    → o ≡ splice l to (padded 16 (run s at n))
name_written x y u v s at n l to h r e ex eu ey ev ea eo =
    eo
    ∙ rw (ea, splice_append_at l to (digits 8 u) (digits 8 v) 8 (length_digits 8 u) (omega arith), eu, ev, ex, ey, e)
    (ap (splice l to) (two_words s at n (omega arith)))

-- a number written over the byte after a name's field
pub number_over : {x y : List ℕ} (s : List ℕ) (v : ℕ) (l : List ℕ) (to : ℕ) → to + 19 ≤ length l
    → x ≡ splice l to (padded 16 s) → y ≡ splice x (to + 15) (u32_bytes v) → y ≡ splice l to (padded 15 s ++ u32_bytes v)
number_over s v l to h e f =
    f
    ∙ rw (e, padded_append 15 1 s)
    (splice_over_end l to (padded 15 s) (padded 1 (drop 15 s)) (u32_bytes v) 15 (padded_length 15 s) (omega (arith, padded_length 1 (drop 15 s), length_u32_bytes v)) (omega (arith, length_u32_bytes v)))

-- ---- the name at an index

pub start_is : (l : List ℕ) (i : ℕ) → cond (eqb i 0) 0 (get_or l (i - 1) 0) ≡ get_or {A = ℕ} (0 ∷ l) i 0
start_is l zero = refl
start_is l (suc i) = let e : suc i - 1 ≡ i = omega arith in rw (ne_eqb (suc i) 0 (suc-ne-zero i), e)

names_length : (s : List ℕ) (at : ℕ) (l : List ℕ) → length (names_from at l s) ≡ length l
unfolding names_from
names_length s at [] = refl
names_length s at (x ∷ l) = ap suc (names_length s x l)

name_short : (n : ℕ) (s : List ℕ) → name_check n s ≡ passes → length s ≤ n
unfolding name_check
name_short n s e = leb-true _ _ ((and-eq-true_iff _ _).0 (need_passes _ name_unfit (next_passes e).0)).0

table_short : (s l : List ℕ) (j : ℕ) → each (name_check 15) (names_of (table_of s l)) ≡ passes → j < length l → length (get_or (names_of (table_of s l)) j []) ≤ 15
unfolding names_of
table_short s l j c h =
    name_short 15 (get_or (names_of (table_of s l)) j [])
    (all_at (λ a. name_check 15 a ≡ passes) (names_of (table_of s l)) j [] (omega (arith, names_length s 0 l)) (each_passes (name_check 15) (names_of (table_of s l)) c))

-- the bytes of a name from where it begins to where it ends
pub record Named (s l : List ℕ) (j start : ℕ) : Type 0 where
  pub begins : start ≤ get_or l j 0
  pub within : get_or l j 0 ≤ length s
  pub short : get_or l j 0 - start ≤ 15
  pub is : run s start (get_or l j 0 - start) ≡ get_or (names_of (table_of s l)) j []

pub named_from : {start : ℕ} (s l : List ℕ) (j : ℕ) → table_right (table_of s l) ≡ true → each (name_check 15) (names_of (table_of s l)) ≡ passes → j < length l
    → start ≡ get_or {A = ℕ} (0 ∷ l) j 0 → Named s l j start
unfolding run
named_from {start} s l j t c h e =
    let b = table_between s l j t h in
    let q : run s start (get_or l j 0 - start) ≡ get_or (names_of (table_of s l)) j [] = rw e (table_name_there s l j h) in
    record {
      begins = omega arith;
      within = b.1;
      short = omega (arith, length_run s start (get_or l j 0 - start) (omega arith), ap length q, table_short s l j c h);
      is = q;
    }
