-- Laws of words: a word cut after its first zero byte has the canonical bytes. Byte by byte, for every number of bytes. Assumes nothing.
use Rattle.std.proofs.Common.{◌≡◌, ℕ, zero, suc, ◌+◌, ◌-◌, ◌*◌, ◌/◌, ◌%◌, ◌<◌, ◌≤◌, Bool, true, false, cond, ◌&&◌, T, eqb, List, [], ◌∷◌, map, length, get_or, take, drop, replicate, sym, refl, ap, ◌∙◌, ⊎_elim, le_of_suc-le-suc, not-suc-le-zero, add-zero, add_assoc, mod-lt, mod-eq_of_lt, eq-or-lt_of_le, div-add-mod', suc-ne-zero, arith, eqb→eq, ne_eqb}
use Rattle.std.specs.Int.{w64, to_le_bytes, from_le_bytes, from_bool}
use Rattle.std.proofs.lemmas.Nat.{le_bytes_8}
use Rattle.std.proofs.Math.Nat.{div-div-eq-div-mul}
use Rattle.vmd_laws.specs.BytesLaws.{Bytes, bytes_nil, bytes_cons, bytes_drop}
use lib.Bits.{bit_and, bit_or, bit_xor, and_block, or_block, xor_block, and_le_r, or_lt, xor_lt, and_mask, and_zero_r, xor_zero_l, xor_self}
use Rattle.vmd_bytes.specs.Slices.{run}
use Rattle.vmd_bytes.specs.Fields.{no_zero, canonical, blank}
use Rattle.vmd_bytes.specs.Words.{digits, repeated, zeros, up_to}
use Rattle.vmd_bytes.proofs.Laws.{length_run, part_cons, part_zero, canonical_nil, canonical_zero, canonical_suc}

-- ---- bytes of a number

pub length_digits : (n v : ℕ) → length (digits n v) ≡ n
unfolding digits
length_digits zero v = refl
length_digits (suc n) v = ap suc (length_digits n (v / 256))

pub digits_block : (n a b : ℕ) → b < 256 → digits (suc n) (a * 256 + b) ≡ b ∷ digits n a
unfolding digits
digits_block n a b h =
    let q : (a * 256 + b) / 256 ≡ a = omega arith in
    let r : (a * 256 + b) % 256 ≡ b = omega arith in
    rw (q, r)

split : (x : ℕ) → x ≡ x / 256 * 256 + x % 256
split x = sym (div-add-mod' x 256)

-- the eight bytes of a word
pub word_bytes : (v : ℕ) → to_le_bytes w64 v ≡ digits 8 v
unfolding digits
word_bytes v = simp div-div-eq-div-mul

bytes_take : (n : ℕ) (s : List ℕ) → Bytes s → Bytes (take n s)
bytes_take zero s h = bytes_nil
bytes_take (suc n) [] h = bytes_nil
bytes_take (suc n) (b ∷ s) h = bytes_cons b (take n s) (h 0) (bytes_take n s (λ (i : ℕ). h (suc i)))

run_small : (s : List ℕ) (at n : ℕ) → Bytes s → Bytes (run s at n)
unfolding run
run_small s at n h = bytes_take n (drop at s) (bytes_drop at s h)

run_eight : (s : List ℕ) (at : ℕ) → at + 8 ≤ length s
    → run s at 8
    ≡ get_or s at 0 ∷ get_or s (at + 1) 0 ∷ get_or s (at + 2) 0 ∷ get_or s (at + 3) 0 ∷ get_or s (at + 4) 0 ∷ get_or s (at + 5) 0 ∷ get_or s (at + 6) 0 ∷ get_or s (at + 7) 0 ∷ []
run_eight s at h =
    rw (
      part_cons s at 7 (omega arith),
      part_cons s (at + 1) 6 (omega arith),
      part_cons s (at + 1 + 1) 5 (omega arith),
      part_cons s (at + 1 + 1 + 1) 4 (omega arith),
      part_cons s (at + 1 + 1 + 1 + 1) 3 (omega arith),
      part_cons s (at + 1 + 1 + 1 + 1 + 1) 2 (omega arith),
      part_cons s (at + 1 + 1 + 1 + 1 + 1 + 1) 1 (omega arith),
      part_cons s (at + 1 + 1 + 1 + 1 + 1 + 1 + 1) 0 (omega arith),
      part_zero,
    ) (simp add_assoc)

-- the word that is read from eight bytes
pub word_of : (s : List ℕ) (at n : ℕ) → at + 8 ≤ length s → ((k : ℕ) → get_or s k 0 < 256)
    → n ≡ from_le_bytes w64 (get_or s at 0 ∷ get_or s (at + 1) 0 ∷ get_or s (at + 2) 0 ∷ get_or s (at + 3) 0 ∷ get_or s (at + 4) 0 ∷ get_or s (at + 5) 0 ∷ get_or s (at + 6) 0 ∷ get_or s (at + 7) 0 ∷ [])
    → digits 8 n ≡ run s at 8
word_of s at n h lt e =
    sym (word_bytes n) ∙ le_bytes_8 (run s at 8) n (length_run s at 8 h) (run_small s at 8 lt) (rw (run_eight s at h) e)

-- ---- the flags of zero bytes

-- the flag of one byte
abbrev flag : ℕ → ℕ
flag b = bit_xor (bit_and (bit_or (bit_and b 127 + 127) b) 128) 128

zeros_block : (n a b : ℕ) → b < 256 → zeros (suc n) (a * 256 + b) ≡ zeros n a * 256 + flag b
unfolding zeros repeated
zeros_block n a b h =
    let r : ℕ = repeated 127 n in
    let t : ℕ = repeated 128 n in
    let low : bit_and b 127 + 127 < 256 = omega (arith, and_le_r b 127) in
    let s : bit_and (a * 256 + b) (r * 256 + 127) + (r * 256 + 127) ≡ (bit_and a r + r) * 256 + (bit_and b 127 + 127) =
    rw (and_block 8 a r b 127 h (omega arith)) (omega arith) in
    let o : bit_or (bit_and b 127 + 127) b < 256 = or_lt 8 (bit_and b 127 + 127) b low h in
    rw (
      s,
      or_block 8 (bit_and a r + r) a (bit_and b 127 + 127) b low h,
      and_block 8 (bit_or (bit_and a r + r) a) t (bit_or (bit_and b 127 + 127) b) 128 o (omega arith),
      xor_block 8 (bit_and (bit_or (bit_and a r + r) a) t) t (bit_and (bit_or (bit_and b 127 + 127) b) 128) 128 (omega (arith, and_le_r (bit_or (bit_and b 127 + 127) b) 128)) (omega arith),
    )

-- a byte that is not zero has no flag: a test over all of them
tested : ℕ → Bool
tested zero = true
tested (suc n) = tested n && eqb (flag (suc n)) 0

all_tested : T (tested 255)
unfolding tested
all_tested = tt

and_left : (a b : Bool) → T (a && b) → T a
and_left true b h = tt
and_left false b h = h

and_right : (a b : Bool) → T (a && b) → T b
and_right true b h = h
and_right false b h = absurd h

tested_at : (n k : ℕ) → k < n → T (tested n) → flag (suc k) ≡ 0
unfolding tested
tested_at zero k h t = absurd (not-suc-le-zero h)
tested_at (suc n) k h t =
    ⊎_elim
    (λ (q : k ≡ n). rw q (eqb→eq (flag (suc n)) 0 (and_right (tested n) (eqb (flag (suc n)) 0) t)))
    (λ (m : k < n). tested_at n k m (and_left (tested n) (eqb (flag (suc n)) 0) t))
    (eq-or-lt_of_le (le_of_suc-le-suc h))

flag_suc : (b : ℕ) → suc b < 256 → flag (suc b) ≡ 0
flag_suc b h = tested_at 255 b (le_of_suc-le-suc h) all_tested

flags_at : (n a b : ℕ) → b < 256 → eqb (zeros n a) 0 ≡ no_zero (digits n a) → eqb (zeros (suc n) (a * 256 + b)) 0 ≡ no_zero (digits (suc n) (a * 256 + b))
unfolding no_zero
flags_at n a zero h ih = rw (zeros_block n a 0 h, digits_block n a 0 h) (ne_eqb (zeros n a * 256 + 128) 0 (λ (e : zeros n a * 256 + 128 ≡ 0). absurd (omega arith)))
flags_at n a (suc b) h ih = rw (zeros_block n a (suc b) h, flag_suc b h, add-zero, digits_block n a (suc b) h, ← ih) (eqb_shift (zeros n a))
  where
    eqb_shift : (m : ℕ) → eqb (m * 256) 0 ≡ eqb m 0
    eqb_shift zero = refl
    eqb_shift (suc m) = ne_eqb (suc m * 256) 0 (λ (e : suc m * 256 ≡ 0). absurd (omega arith)) ∙ sym (ne_eqb (suc m) 0 (suc-ne-zero m))

-- a word has no flag just when no byte is zero
pub flags_none : (n x : ℕ) → eqb (zeros n x) 0 ≡ no_zero (digits n x)
unfolding digits no_zero zeros repeated
flags_none zero x = rw (and_zero_r (bit_or (bit_and x 0 + 0) x))
flags_none (suc n) x = rw (split x) (flags_at n (x / 256) (x % 256) (mod-lt x (omega arith)) (flags_none n (x / 256)))

-- ---- the mask

up_shift : (n m : ℕ) → up_to (suc n) (m * 256) ≡ up_to n m * 256 + 255
unfolding up_to repeated
up_shift n zero = refl
up_shift n (suc m) =
    let e : suc m * 256 ≡ suc (m * 256 + 255) = omega arith in
    let f : suc (m * 256 + 255) ≡ suc m * 256 + 0 = omega arith in
    rw e (ap (λ (k : ℕ). bit_xor k (m * 256 + 255)) f ∙ xor_block 8 (suc m) m 0 255 (omega arith) (omega arith))

up_flag : (n m : ℕ) → up_to (suc n) (m * 256 + 128) ≡ 255
unfolding up_to
up_flag n m =
    let e : m * 256 + 128 ≡ suc (m * 256 + 127) = omega arith in
    rw e (ap (λ (k : ℕ). bit_xor k (m * 256 + 127)) (sym e) ∙ xor_block 8 m m 128 127 (omega arith) (omega arith) ∙ rw (xor_self m))

-- what a mask of the flags m is, where the difference wraps
pub mask_of : (m : ℕ) (live : Bool) → m < 18446744073709551616
    → bit_xor m ((m + (18446744073709551616 - from_bool live)) % 18446744073709551616) ≡ cond live (up_to 8 m) 0
unfolding up_to repeated
mask_of zero true h = xor_zero_l 18446744073709551615
mask_of (suc m) true h = let q : (suc m + 18446744073709551615) % 18446744073709551616 ≡ m = omega arith in rw q
mask_of m false h = let q : (m + 18446744073709551616) % 18446744073709551616 ≡ m = omega arith in rw q (xor_self m)

-- ---- a word cut after its first zero byte

abbrev cut : ℕ → ℕ → ℕ
cut n x = bit_and x (up_to n (zeros n x))

cut_keep : (n a b : ℕ) → suc b < 256 → cut (suc n) (a * 256 + suc b) ≡ cut n a * 256 + suc b
cut_keep n a b h =
    rw (zeros_block n a (suc b) h, flag_suc b h, add-zero, up_shift n (zeros n a), and_block 8 a (up_to n (zeros n a)) (suc b) 255 h (omega arith), and_mask (suc b) 8, mod-eq_of_lt h)

cut_zero : (n a : ℕ) → cut (suc n) (a * 256 + 0) ≡ 0
cut_zero n a =
    rw (zeros_block n a 0 (omega arith), up_flag n (zeros n a))
    (and_block 8 a 0 0 255 (omega arith) (omega arith) ∙ rw (and_zero_r a))

digits_zero : (n : ℕ) (l : List ℕ) → length l ≡ n → digits n 0 ≡ canonical false l
unfolding digits canonical
digits_zero zero l e = rw e
digits_zero (suc n) l e = rw e (ap (λ (t : List ℕ). 0 ∷ t) (digits_none n))
  where
    digits_none : (n : ℕ) → digits n 0 ≡ replicate n 0
    digits_none zero = refl
    digits_none (suc n) = ap (λ (t : List ℕ). 0 ∷ t) (digits_none n)

cut_at : (n a b : ℕ) → b < 256 → digits n (cut n a) ≡ canonical true (digits n a) → digits (suc n) (cut (suc n) (a * 256 + b)) ≡ canonical true (digits (suc n) (a * 256 + b))
cut_at n a zero h ih =
    rw (cut_zero n a, digits_block n 0 0 h, digits_block n a 0 h, canonical_zero (digits n a)) (ap (λ (t : List ℕ). 0 ∷ t) (digits_zero n (digits n a) (length_digits n a)))
cut_at n a (suc b) h ih =
    rw (cut_keep n a b h, digits_block n (cut n a) (suc b) h, digits_block n a (suc b) h, canonical_suc b (digits n a), ih)

digits_cut : (n x : ℕ) → digits n (cut n x) ≡ canonical true (digits n x)
unfolding digits
digits_cut zero x = sym (canonical_nil true)
digits_cut (suc n) x =
    rw (split x) (cut_at n (x / 256) (x % 256) (mod-lt x (omega arith)) (digits_cut n (x / 256)))

-- the bytes of a word under its mask are the canonical bytes of the word
pub digits_masked : (n x : ℕ) (live : Bool) → digits n (bit_and x (cond live (up_to n (zeros n x)) 0)) ≡ canonical live (digits n x)
digits_masked n x true = digits_cut n x
digits_masked n x false = rw (and_zero_r x) (digits_zero n (digits n x) (length_digits n x))

-- ---- line feeds

-- each flag is 128 or 0
flag_whole : (b : ℕ) → b < 256 → (flag b % 128 ≡ 0) × (flag b < 256)
flag_whole zero h = (refl, omega arith)
flag_whole (suc b) h = rw (flag_suc b h) (refl, omega arith)

flags_whole : (n x : ℕ) → zeros n x % 128 ≡ 0
flags_whole zero x = unfold zeros repeated in rw (and_zero_r (bit_or (bit_and x 0 + 0) x))
flags_whole (suc n) x =
    let e = flags_whole n (x / 256) in
    let f = (flag_whole (x % 256) (mod-lt x (omega arith))).0 in
    rw (split x) (rw (zeros_block n (x / 256) (x % 256) (mod-lt x (omega arith))) (sum (zeros n (x / 256)) (flag (x % 256)) e f))
  where
    sum : (a b : ℕ) → a % 128 ≡ 0 → b % 128 ≡ 0 → (a * 256 + b) % 128 ≡ 0
    sum a b e f = omega arith

-- flags of line feeds as tens, byte by byte
tens_block : (a f : ℕ) → a % 128 ≡ 0 → f % 128 ≡ 0 → (a * 256 + f) / 128 * 10 ≡ a / 128 * 10 * 256 + f / 128 * 10
tens_block a f h k = omega arith

-- a byte with its ten taken off where it is a line feed: a test over all of them
fed : ℕ → ℕ
fed b = bit_xor b (flag (bit_xor b 10) / 128 * 10)

tested_feeds : ℕ → Bool
tested_feeds zero = true
tested_feeds (suc n) = tested_feeds n && eqb (fed n) (blank n)

all_feeds : T (tested_feeds 256)
unfolding tested_feeds fed blank
all_feeds = tt

feeds_at : (n k : ℕ) → k < n → T (tested_feeds n) → fed k ≡ blank k
unfolding tested_feeds
feeds_at zero k h t = absurd (not-suc-le-zero h)
feeds_at (suc n) k h t =
    ⊎_elim
    (λ (q : k ≡ n). rw q (eqb→eq (fed n) (blank n) (and_right (tested_feeds n) (eqb (fed n) (blank n)) t)))
    (λ (m : k < n). feeds_at n k m (and_left (tested_feeds n) (eqb (fed n) (blank n)) t))
    (eq-or-lt_of_le (le_of_suc-le-suc h))

abbrev blanked : ℕ → ℕ → ℕ
blanked n x = bit_xor x (zeros n (bit_xor x (repeated 10 n)) / 128 * 10)

blanked_block : (n a b : ℕ) → b < 256 → blanked (suc n) (a * 256 + b) ≡ blanked n a * 256 + blank b
blanked_block n a b h =
    let r : ℕ = repeated 10 n in
    let q : repeated 10 (suc n) ≡ r * 256 + 10 = (unfold repeated in refl) in
    let p : bit_xor b 10 < 256 = xor_lt 8 b 10 h (omega arith) in
    let f : ℕ = flag (bit_xor b 10) in
    let w = flag_whole (bit_xor b 10) p in
    let t : bit_xor b (f / 128 * 10) ≡ blank b = (unfold fed in feeds_at 256 b h all_feeds) in
    rw (
      q,
      xor_block 8 a r b 10 h (omega arith),
      zeros_block n (bit_xor a r) (bit_xor b 10) p,
      tens_block (zeros n (bit_xor a r)) f (flags_whole n (bit_xor a r)) w.0,
      xor_block 8 a (zeros n (bit_xor a r) / 128 * 10) b (f / 128 * 10) h (omega (arith, w.1)),
      t,
    )

blank_small : (b : ℕ) → b < 256 → blank b < 256
unfolding blank
blank_small b h = go (eqb b 10)
  where
    go : (x : Bool) → cond x 0 b < 256
    go true = omega arith
    go false = h

blanked_at : (n a b : ℕ) → b < 256 → digits n (blanked n a) ≡ map blank (digits n a) → digits (suc n) (blanked (suc n) (a * 256 + b)) ≡ map blank (digits (suc n) (a * 256 + b))
blanked_at n a b h ih = rw (blanked_block n a b h, digits_block n (blanked n a) (blank b) (blank_small b h), digits_block n a b h, ih)

-- LAW: the bytes of a word without its line feeds
pub digits_blanked : (n x : ℕ) → digits n (blanked n x) ≡ map blank (digits n x)
unfolding digits
digits_blanked zero x = refl
digits_blanked (suc n) x =
    rw (split x) (blanked_at n (x / 256) (x % 256) (mod-lt x (omega arith)) (digits_blanked n (x / 256)))
