-- Laws of numbers and names in bytes.
use Rattle.std.specs.Prelude.{ℕ, zero, suc, ◌+◌, ◌*◌, ◌/◌, ◌%◌, ◌≤◌, ◌<◌, ◌^◌, ◌≡◌, refl, Bool, true, false, ◌&&◌, List, [], ◌∷◌, ◌++◌, ltb, length, get_or, take, drop, replicate}
use Rattle.std.proofs.Common.{ap, arith, zero-add, suc-add, not-suc-le-zero, ltb-true}
use Rattle.std.proofs.Math.Bool.{and-eq-true_iff}
use Rattle.std.proofs.Math.Nat.{div-div-eq-div-mul}
use lib.Seq.{get_or-drop}
use Rattle.vmd_format.specs.Bytes.{u32, u32_bytes, before_zero, padded, is_zero, is_set, inverted_byte, flag_byte}

-- each element is a byte
abbrev pub Bytes : List ℕ → Type 0
Bytes s = (i : ℕ) → get_or s i 0 < 256

pub bytes_drop : (n : ℕ) (s : List ℕ) → Bytes s → Bytes (drop n s)
bytes_drop n s h i = rw get_or-drop (h (n + i))

pub bytes_nil : Bytes []
bytes_nil i = omega arith

pub bytes_cons : (b : ℕ) (s : List ℕ) → b < 256 → Bytes s → Bytes (b ∷ s)
bytes_cons b s h k zero = h
bytes_cons b s h k (suc i) = k i

pub bytes_append : (s t : List ℕ) → Bytes s → Bytes t → Bytes (s ++ t)
bytes_append [] t h k = k
bytes_append (b ∷ s) t h k = bytes_cons b (s ++ t) (h 0) (bytes_append s t (λ i. h (suc i)) k)

-- a computed test of bytes that are written out
unfoldable pub all_bytes : List ℕ → Bool
all_bytes [] = true
all_bytes (b ∷ s) = ltb b 256 && all_bytes s

pub bytes_tested : (s : List ℕ) → all_bytes s ≡ true → Bytes s
unfolding all_bytes
bytes_tested [] e = bytes_nil
bytes_tested (b ∷ s) e = let h = (and-eq-true_iff _ _).0 e in bytes_cons b s (ltb-true b 256 h.0) (bytes_tested s h.1)

digits : (n a b c : ℕ) → n / 256 ≡ a → a / 256 ≡ b → b / 256 ≡ c → c < 256
    → n % 256 + 256 * (a % 256) + 65536 * (b % 256) + 16777216 * (c % 256) ≡ n
digits n a b c p q r h = omega arith

pub u32_back : (n : ℕ) (rest : List ℕ) → n < 2 ^ 32 → u32 (u32_bytes n ++ rest) ≡ n
unfolding u32 u32_bytes
u32_back n rest h =
    digits n (n / 256) (n / 65536) (n / 16777216) refl (div-div-eq-div-mul n 256 256) (div-div-eq-div-mul n 65536 256) (omega arith)

pub u32_lt : (s : List ℕ) → Bytes s → u32 s < 2 ^ 32
unfolding u32
u32_lt s h = omega (arith, h 0, h 1, h 2, h 3)

pub u32_bytes_small : (n : ℕ) → Bytes (u32_bytes n)
unfolding u32_bytes
u32_bytes_small n zero = omega arith
u32_bytes_small n (suc zero) = omega arith
u32_bytes_small n (suc (suc zero)) = omega arith
u32_bytes_small n (suc (suc (suc zero))) = omega arith
u32_bytes_small n (suc (suc (suc (suc i)))) = omega arith

-- a name: bytes other than zero, at most n
pub record Name (n : ℕ) (s : List ℕ) : Type 0 where
  pub short : length s ≤ n
  pub none_zero : (i : ℕ) → i < length s → 0 < get_or s i 0
  pub small : Bytes s

pub record Raw (n : ℕ) (s : List ℕ) : Type 0 where
  pub long : length s ≡ n
  pub small : Bytes s

pub padded_length : (n : ℕ) (s : List ℕ) → length (padded n s) ≡ n
unfolding padded
padded_length zero s = refl
padded_length (suc n) [] = ap suc (padded_length n [])
padded_length (suc n) (b ∷ s) = ap suc (padded_length n s)

pub padded_small : (n : ℕ) (s : List ℕ) → Bytes s → Bytes (padded n s)
unfolding padded
padded_small zero s h = bytes_nil
padded_small (suc n) [] h = bytes_cons 0 (padded n []) (omega arith) (padded_small n [] bytes_nil)
padded_small (suc n) (b ∷ s) h = bytes_cons b (padded n s) (h 0) (padded_small n s (λ i. h (suc i)))

pub length_before_zero : (l : List ℕ) → length (before_zero l) ≤ length l
unfolding before_zero
length_before_zero [] = omega arith
length_before_zero (zero ∷ l) = omega arith
length_before_zero (suc b ∷ l) = omega (arith, length_before_zero l)

-- a name that fits is padded further by more zeros
pub padded_more : (n k : ℕ) (s : List ℕ) → length s ≤ n → padded (n + k) s ≡ padded n s ++ replicate k 0
unfolding padded
padded_more zero zero [] h = refl
padded_more zero (suc k) [] h = rw zero-add (ap (λ r. 0 ∷ r) (rw zero-add at (padded_more zero k [] h)))
padded_more zero k (b ∷ s) h = absurd (omega arith)
padded_more (suc n) k [] h = rw suc-add (ap (λ r. 0 ∷ r) (padded_more n k [] (omega arith)))
padded_more (suc n) k (b ∷ s) h = rw suc-add (ap (λ r. b ∷ r) (padded_more n k s (omega arith)))

-- zeros alone hold the empty name
zeros_back : (n : ℕ) (rest : List ℕ) → before_zero (take n (padded n [] ++ rest)) ≡ []
unfolding padded before_zero
zeros_back zero rest = refl
zeros_back (suc n) rest = refl

pub padded_back : (n : ℕ) (s rest : List ℕ) → Name n s → before_zero (take n (padded n s ++ rest)) ≡ s
unfolding padded before_zero
padded_back n [] rest h = zeros_back n rest
padded_back zero (b ∷ s) rest h = absurd (not-suc-le-zero h.short)
padded_back (suc n) (zero ∷ s) rest h = absurd (not-suc-le-zero (h.none_zero 0 (omega arith)))
padded_back (suc n) (suc b ∷ s) rest h =
    ap {B = List ℕ} (λ r. suc b ∷ r)
    (padded_back n s rest (record { short = omega (arith, h.short); none_zero = λ i k. h.none_zero (suc i) (omega arith); small = λ i. h.small (suc i) }))

pub padded_take : (n : ℕ) (s rest : List ℕ) → length s ≡ n → take n (padded n s ++ rest) ≡ s
unfolding padded
padded_take zero [] rest h = refl
padded_take zero (b ∷ s) rest h = absurd (omega arith)
padded_take (suc n) [] rest h = absurd (omega arith)
padded_take (suc n) (b ∷ s) rest h = ap {B = List ℕ} (λ r. b ∷ r) (padded_take n s rest (omega arith))

pub bytes_take : (n : ℕ) (s : List ℕ) → Bytes s → Bytes (take n s)
bytes_take zero s h i = omega arith
bytes_take (suc n) [] h i = omega arith
bytes_take (suc n) (b ∷ s) h zero = h 0
bytes_take (suc n) (b ∷ s) h (suc i) = bytes_take n s (λ j. h (suc j)) i

pub name_fair : (n : ℕ) (s : List ℕ) → Bytes s → Name n (before_zero (take n s))
unfolding before_zero
name_fair zero s h = record { short = omega arith; none_zero = λ i k. omega arith; small = bytes_nil }
name_fair (suc n) [] h = record { short = omega arith; none_zero = λ i k. omega arith; small = bytes_nil }
name_fair (suc n) (zero ∷ s) h = record { short = omega arith; none_zero = λ i k. omega arith; small = bytes_nil }
name_fair (suc n) (suc b ∷ s) h = longer (name_fair n s (λ j. h (suc j)))
  where
    longer : {t : List ℕ} → Name n t → Name (suc n) (suc b ∷ t)
    longer {t} k = record { short = omega (arith, k.short); none_zero = more; small = most }
      where
        more : (i : ℕ) → i < length (suc b ∷ t) → 0 < get_or (suc b ∷ t) i 0
        more zero l = omega arith
        more (suc i) l = k.none_zero i (omega arith)

        most : Bytes (suc b ∷ t)
        most zero = h 0
        most (suc i) = k.small i

pub raw_fair : (n : ℕ) (s : List ℕ) → Bytes s → n ≤ length s → Raw n (take n s)
raw_fair n s h l = record { long = lib.Seq.length-take-le n s l; small = bytes_take n s h }

pub inverted_back : (b : Bool) → is_zero (inverted_byte b) ≡ b
unfolding is_zero inverted_byte
inverted_back true = refl
inverted_back false = refl

pub flag_back : (b : Bool) → is_set (flag_byte b) ≡ b
unfolding is_set flag_byte
flag_back true = refl
flag_back false = refl

pub inverted_small : (b : Bool) → inverted_byte b < 256
unfolding inverted_byte
inverted_small true = omega arith
inverted_small false = omega arith

pub flag_small : (b : Bool) → flag_byte b < 256
unfolding flag_byte
flag_small true = omega arith
flag_small false = omega arith
