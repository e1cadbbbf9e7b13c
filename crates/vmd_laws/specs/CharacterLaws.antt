-- Pairs that are no character: request h), "one bit for each of 11,280 pointers", "A pair now needs one [a character]".
use Rattle.std.specs.Prelude.{ℕ, suc, ◌+◌, ◌-◌, ◌/◌, ◌%◌, ◌≤◌, ◌<◌, ◌≡◌, refl, ◌↔◌, ◌⊎◌, Bool, true, false, ◌&&◌, ◌||◌, cond, leb, ltb}
use Rattle.std.proofs.Common.{inl, inr, arith, leb-true, le-leb, le-ltb, lt-ltb, ltb-true, ltb-false}
use Rattle.std.proofs.Math.Bool.{and-eq-true_iff}
use Rattle.vmd_format.specs.Characters.{between, pointer, in_index, character}
use Rattle.vmd_format.specs.Names.{lead, trail, pair}

-- ---- ranges

pub between_true : (a b n : ℕ) → between a b n ≡ true → (a ≤ n) × (n ≤ b)
unfolding between
between_true a b n e = let p = (and-eq-true_iff (leb a n) (leb n b)).0 e in (leb-true a n p.0, leb-true n b p.1)

pub true_between : (a b n : ℕ) → a ≤ n → n ≤ b → between a b n ≡ true
unfolding between
true_between a b n h k = rw (le-leb a n h, le-leb n b k)

either_true : (x y : Bool) → (x || y) ≡ true → (x ≡ true) ⊎ (y ≡ true)
either_true true y e = inl refl
either_true false y e = inr e

true_either : (x y : Bool) → (x ≡ true) ⊎ (y ≡ true) → (x || y) ≡ true
true_either true y h = refl
true_either false y (inl h) = let z : ◌≡◌ {A = ℕ} 0 1 = cc in absurd (omega arith)
true_either false y (inr h) = h

-- one of the two ranges that leads have, and trails
pub either_range : (a b c d n : ℕ) → (between a b n || between c d n) ≡ true → ((a ≤ n) × (n ≤ b)) ⊎ ((c ≤ n) × (n ≤ d))
either_range a b c d n e = go (either_true (between a b n) (between c d n) e)
  where
    go : (between a b n ≡ true) ⊎ (between c d n ≡ true) → ((a ≤ n) × (n ≤ b)) ⊎ ((c ≤ n) × (n ≤ d))
    go (inl p) = inl (between_true a b n p)
    go (inr p) = inr (between_true c d n p)

-- ---- pointers

-- Bytes of two ranges, from low to end and from gap to last, are counted from low and, from gap on, from high, so that the count goes
-- on: leads and trails alike.
module _ (low end gap last high : ℕ) (h : (low ≤ end) × (end < gap) × (gap ≤ last) × (low ≤ high) × (high ≤ gap) × (gap + low ≡ suc end + high)) where
  abbrev among : ℕ → Bool
  among b = between low end b || between gap last b

  abbrev number : ℕ → ℕ
  number b = b - cond (ltb b gap) low high

  -- which range, and the number there
  data Counted (b : ℕ) : Type 0 where
    lower : low ≤ b → b ≤ end → number b + low ≡ b → Counted b
    upper : gap ≤ b → b ≤ last → number b + high ≡ b → Counted b

  counted : (b : ℕ) → among b ≡ true → Counted b
  counted b e = go (either_range low end gap last b e)
    where
      go : ((low ≤ b) × (b ≤ end)) ⊎ ((gap ≤ b) × (b ≤ last)) → Counted b
      go (inl k) = lower k.0 k.1 (rw (lt-ltb b gap (omega (arith, h))) (omega (arith, h)))
      go (inr k) = upper k.0 k.1 (rw (le-ltb b gap k.0) (omega (arith, h)))

  pub number_below : (b : ℕ) → among b ≡ true → (low ≤ b) × (number b ≤ last - high)
  number_below b e = go (counted b e)
    where
      go : Counted b → (low ≤ b) × (number b ≤ last - high)
      go (lower k l q) = (k, omega (arith, h))
      go (upper k l q) = (omega (arith, h), omega (arith, h))

  pub number_once : (b c : ℕ) → among b ≡ true → among c ≡ true → number b ≡ number c → b ≡ c
  number_once b c e f q = go (counted b e) (counted c f)
    where
      go : Counted b → Counted c → b ≡ c
      go (lower k l m) (lower k' l' m') = omega (arith, h)
      go (lower k l m) (upper k' l' m') = omega (arith, h)
      go (upper k l m) (lower k' l' m') = omega (arith, h)
      go (upper k l m) (upper k' l' m') = omega (arith, h)

  pub number_each : (n : ℕ) → n ≤ last - high → (b : ℕ) × (among b ≡ true) × (number b ≡ n)
  number_each n k = go (ltb n (suc end - low)) refl
    where
      go : (x : Bool) → ltb n (suc end - low) ≡ x → (b : ℕ) × (among b ≡ true) × (number b ≡ n)
      go true e =
          let l = ltb-true n (suc end - low) e in
          (n + low, true_either (between low end (n + low)) (between gap last (n + low)) (inl (true_between low end (n + low) (omega arith) (omega (arith, h)))), rw (lt-ltb (n + low) gap (omega (arith, h))) (omega arith))
      go false e =
          let l = ltb-false n (suc end - low) e in
          (n + high, true_either (between low end (n + high)) (between gap last (n + high)) (inr (true_between gap last (n + high) (omega (arith, h)) (omega (arith, h)))), rw (le-ltb (n + high) gap (omega (arith, h))) (omega arith))

leads : (129 ≤ 159) × (159 < 224) × (224 ≤ 252) × (129 ≤ 193) × (193 ≤ 224) × (224 + 129 ≡ 160 + 193)
leads = (omega arith, omega arith, omega arith, omega arith, omega arith, omega arith)

trails : (64 ≤ 126) × (126 < 128) × (128 ≤ 252) × (64 ≤ 65) × (65 ≤ 128) × (128 + 64 ≡ 127 + 65)
trails = (omega arith, omega arith, omega arith, omega arith, omega arith, omega arith)

-- a lead's number is below 60, and a trail's below 188
pub lead_number : (a : ℕ) → lead a ≡ true → (129 ≤ a) × (a - cond (ltb a 224) 129 193 < 60)
unfolding lead
lead_number a e = let k = number_below 129 159 224 252 193 leads a e in (k.0, omega (arith, k.1))

pub trail_number : (b : ℕ) → trail b ≡ true → (64 ≤ b) × (b - cond (ltb b 128) 64 65 < 188)
unfolding trail
trail_number b e = let k = number_below 64 126 128 252 65 trails b e in (k.0, omega (arith, k.1))

-- the pointers of pairs are the numbers below 11,280 ..
pub pointer_below : (a b : ℕ) → lead a ≡ true → trail b ≡ true → pointer a b < 11280
unfolding pointer
pointer_below a b l t = omega (arith, (lead_number a l).1, (trail_number b t).1)

-- .. each the pointer of one pair ..
pub pointer_once : (a b c d : ℕ) → lead a ≡ true → trail b ≡ true → lead c ≡ true → trail d ≡ true → pointer a b ≡ pointer c d → (a ≡ c) × (b ≡ d)
unfolding pointer lead trail
pointer_once a b c d l t m u e =
    let x = (trail_number b t).1 in
    let y = (trail_number d u).1 in (
      number_once 129 159 224 252 193 leads a c l m (omega (arith, x, y, e)),
      number_once 64 126 128 252 65 trails b d t u (omega (arith, x, y, e)),
    )

-- .. and none is left out
pub pointer_each : (p : ℕ) → p < 11280 → (a : ℕ) × (b : ℕ) × (lead a ≡ true) × (trail b ≡ true) × (pointer a b ≡ p)
unfolding pointer lead trail
pointer_each p h =
    let x = number_each 129 159 224 252 193 leads (p / 188) (omega arith) in
    let y = number_each 64 126 128 252 65 trails (p % 188) (omega arith) in
    (x.0, y.0, x.1, y.1, omega (arith, x.2, y.2))

-- ---- pairs

-- "A pair now needs one: its pointer .. is in the jis0208 index or lies in 8836 to 10715"
pub pair_is : (a b : ℕ) → (pair a b ≡ true)
    ↔ ((lead a ≡ true) × (trail b ≡ true) × ((in_index (pointer a b) ≡ true) ⊎ ((8836 ≤ pointer a b) × (pointer a b ≤ 10715))))
unfolding pair character
pair_is a b = (there, back)
  where
    p : ℕ
    p = pointer a b

    there : pair a b ≡ true → (lead a ≡ true) × (trail b ≡ true) × ((in_index p ≡ true) ⊎ ((8836 ≤ p) × (p ≤ 10715)))
    there e =
        let x = (and-eq-true_iff (lead a) (trail b && character p)).0 e in
        let y = (and-eq-true_iff (trail b) (character p)).0 x.1 in
        (x.0, y.0, ranged (either_true (in_index p) (between 8836 10715 p) y.1))
      where
        ranged : (in_index p ≡ true) ⊎ (between 8836 10715 p ≡ true) → (in_index p ≡ true) ⊎ ((8836 ≤ p) × (p ≤ 10715))
        ranged (inl k) = inl k
        ranged (inr k) = inr (between_true 8836 10715 p k)

    back : (lead a ≡ true) × (trail b ≡ true) × ((in_index p ≡ true) ⊎ ((8836 ≤ p) × (p ≤ 10715))) → pair a b ≡ true
    back h = rw (h.0, h.1) (true_either (in_index p) (between 8836 10715 p) (told h.2))
      where
        told : (in_index p ≡ true) ⊎ ((8836 ≤ p) × (p ≤ 10715)) → (in_index p ≡ true) ⊎ (between 8836 10715 p ≡ true)
        told (inl k) = inl k
        told (inr k) = inr (true_between 8836 10715 p k.0 k.1)
