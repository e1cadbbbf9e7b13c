-- Laws of the presence table: one pointer more sets one bit, and which bits are set. Assumes nothing.
use Rattle.std.proofs.Common.{◌≡◌, ℕ, zero, suc, ◌+◌, ◌-◌, ◌*◌, ◌/◌, ◌%◌, ◌^◌, ◌<◌, ◌≤◌, Bool, true, false, cond, ◌||◌, eqb, List, [], ◌∷◌, ◌++◌, length, get_or, set, replicate, sym, refl, ap, ◌∙◌, mod-eq_of_lt, mul_assoc, mul_comm, pow-suc, zero-add, arith, length-set, get_or-set_other, get_or-set_same, ext_get_or, pow_pos, pow-add, lt-ltb, eq-eqb, ne_eqb, eqb-true}
use mathlib.Core.Bool.{or-false}
use native.Mathlib.Nat.{div-eq_of_lt, add-mul-div_right, add-mul-mod_self_left}
use borrow.Author.Tests.{eqb-false}
use Rattle.vmd_index.specs.Index.{among, bits_below, words_from, table}
use Rattle.vmd_index.specs.Steps.{marked}

-- ---- which pointers are among some

among_snoc : (q : ℕ) (l : List ℕ) (p : ℕ) → among q (l ++ (p ∷ [])) ≡ (among q l || eqb q p)
unfolding among
among_snoc q [] p = or-false (eqb q p)
among_snoc q (a ∷ l) p = go (eqb q a) (among_snoc q l p)
  where
    go : (x : Bool) → among q (l ++ (p ∷ [])) ≡ (among q l || eqb q p) → (x || among q (l ++ (p ∷ []))) ≡ (x || among q l || eqb q p)
    go true e = refl
    go false e = e

-- all below a number
abbrev pub Under : ℕ → List ℕ → Type 0
Under m [] = Unit {0}
Under m (q ∷ l) = (q < m) × Under m l

pub under_more : (m k : ℕ) (l : List ℕ) → m ≤ k → Under m l → Under k l
under_more m k [] h u = tt
under_more m k (q ∷ l) h u = (omega (arith, u.0), under_more m k l h u.1)

pub under_snoc : (m p : ℕ) (l : List ℕ) → m ≤ p → Under m l → Under (suc p) (l ++ (p ∷ []))
under_snoc m p [] h u = (omega arith, tt)
under_snoc m p (q ∷ l) h u = (omega (arith, u.0), under_snoc m p l h u.1)

pub not_among : (m p : ℕ) (l : List ℕ) → m ≤ p → Under m l → among p l ≡ false
unfolding among
not_among m p [] h u = refl
not_among m p (q ∷ l) h u = rw (ne_eqb p q (omega (arith, u.0))) (not_among m p l h u.1)

-- ---- a word

pub bits_lt : (k i : ℕ) (ps : List ℕ) → bits_below k i ps < 2 ^ k
unfolding bits_below
bits_lt zero i ps = omega arith
bits_lt (suc k) i ps = go (among (32 * i + k) ps) (bits_lt k i ps)
  where
    go : (x : Bool) → bits_below k i ps < 2 ^ k → bits_below k i ps + cond x (2 ^ k) 0 < 2 ^ suc k
    go true h = rw (pow-suc 2 k) (omega arith)
    go false h = rw (pow-suc 2 k) (omega arith)

bits_none : (k i : ℕ) → bits_below k i [] ≡ 0
unfolding bits_below among
bits_none zero i = refl
bits_none (suc k) i = rw (bits_none k i)

module _ (l : List ℕ) (p i : ℕ) where
  -- a pointer of another word
  bits_same : (k : ℕ) → ((j : ℕ) → j < k → 32 * i + j ≡ p → ⊥) → bits_below k i (l ++ (p ∷ [])) ≡ bits_below k i l
  unfolding bits_below
  bits_same zero h = refl
  bits_same (suc k) h =
      let r = bits_same k (λ (j : ℕ) (g : j < k) e. h j (omega arith) e) in
      rw (r, among_snoc (32 * i + k) l p, ne_eqb (32 * i + k) p (h k (omega arith)), or-false (among (32 * i + k) l))

  -- a new pointer of this one
  module _ (m : ℕ) (e : 32 * i + m ≡ p) (f : among p l ≡ false) where
    bits_new : (k : ℕ) → m < k → bits_below k i (l ++ (p ∷ [])) ≡ bits_below k i l + 2 ^ m
    unfolding bits_below
    bits_new zero h = absurd (omega arith)
    bits_new (suc k) h = go (eqb m k) refl (bits_new k)
      where
        go : (x : Bool) → eqb m k ≡ x → (m < k → bits_below k i (l ++ (p ∷ [])) ≡ bits_below k i l + 2 ^ m)
            → bits_below k i (l ++ (p ∷ [])) + cond (among (32 * i + k) (l ++ (p ∷ []))) (2 ^ k) 0
            ≡ bits_below k i l + cond (among (32 * i + k) l) (2 ^ k) 0 + 2 ^ m
        go true q r =
            let a : m ≡ k = eqb-true m k q in
            let b : 32 * i + k ≡ p = omega arith in
            rw (bits_same k (λ (j : ℕ) (g : j < k) c. omega arith), among_snoc (32 * i + k) l p, b, f, eq-eqb p p refl, a) (omega arith)
        go false q r =
            let a : (m ≡ k → ⊥) = eqb-false m k q in
            let b : (32 * i + k ≡ p → ⊥) = omega arith in
            rw (r (omega arith), among_snoc (32 * i + k) l p, ne_eqb (32 * i + k) p b, or-false (among (32 * i + k) l)) (omega arith)

-- ---- all words

pub length_words : (n i : ℕ) (ps : List ℕ) → length (words_from n i ps) ≡ n
unfolding words_from
length_words zero i ps = refl
length_words (suc n) i ps = ap suc (length_words n (suc i) ps)

pub words_at : (n i : ℕ) (ps : List ℕ) (j : ℕ) → j < n → get_or (words_from n i ps) j 0 ≡ bits_below 32 (i + j) ps
unfolding words_from
words_at zero i ps j h = absurd (omega arith)
words_at (suc n) i ps zero h = let e : i + 0 ≡ i = omega arith in rw e
words_at (suc n) i ps (suc j) h = let e : i + suc j ≡ suc i + j = omega arith in rw e (words_at n (suc i) ps j (omega arith))

words_none : (n i : ℕ) → words_from n i [] ≡ replicate n 0
unfolding words_from
words_none zero i = refl
words_none (suc n) i = rw (bits_none 32 i, words_none n (suc i))

pub table_none : table [] ≡ replicate 353 0
unfolding table
table_none = words_none 353 0

pub length_table : (ps : List ℕ) → length (table ps) ≡ 353
unfolding table
length_table ps = length_words 353 0 ps

pub table_at : (ps : List ℕ) (j : ℕ) → j < 353 → get_or (table ps) j 0 ≡ bits_below 32 j ps
unfolding table
table_at ps j h = let e : 0 + j ≡ j = omega arith in words_at 353 0 ps j h ∙ rw e

-- a new pointer marks the table
pub table_marked : (l : List ℕ) (p : ℕ) → p < 11280 → among p l ≡ false → marked (table l) p ≡ table (l ++ (p ∷ []))
unfolding marked
table_marked l p h f =
    rw (lt-ltb p 11280 h)
    (ext_get_or 0 (set (table l) (p / 32) v) (table (l ++ (p ∷ []))) (simp (length-set, length_table))
    λ (j : ℕ) g. at j (eqb j (p / 32)) refl (within j g))
  where
    v : ℕ
    v = (get_or (table l) (p / 32) 0 + 2 ^ (p % 32)) % 2 ^ 32

    within : (j : ℕ) → j < length (set (table l) (p / 32) v) → j < 353
    within j g = rw (length_table l) at (rw (length-set (table l) (p / 32) v) at g)

    at : (j : ℕ) (x : Bool) → eqb j (p / 32) ≡ x → j < 353 → get_or (set (table l) (p / 32) v) j 0 ≡ get_or (table (l ++ (p ∷ []))) j 0
    at j true e g =
        let a : j ≡ p / 32 = eqb-true j (p / 32) e in
        let b : p / 32 < 353 = omega arith in
        let n = bits_new l p (p / 32) (p % 32) (omega arith) f 32 (omega arith) in
        rw (a, get_or-set_same (table l) (p / 32) v 0 (rw (length_table l) b), table_at (l ++ (p ∷ [])) (p / 32) b, n)
        (rw (table_at l (p / 32) b) (mod-eq_of_lt (rw n at (bits_lt 32 (p / 32) (l ++ (p ∷ []))))))
    at j false e g =
        let a : (j ≡ p / 32 → ⊥) = eqb-false j (p / 32) e in
        rw (get_or-set_other (table l) (p / 32) j v 0 a, table_at l j g, table_at (l ++ (p ∷ [])) j g)
        (sym (bits_same l p j 32 (λ (k : ℕ) (h : k < 32) q. a (omega arith))))

-- no pointer marks nothing
pub none_marked : (ws : List ℕ) → marked ws 11280 ≡ ws
unfolding marked
none_marked ws = refl

-- ---- which bits are set

-- of a number below 2 ^ n and a multiple of it: bit n, and a bit below n
top_bit : (n w c : ℕ) → w < 2 ^ n → c < 2 → (w + c * 2 ^ n) / 2 ^ n % 2 ≡ c
top_bit n w c h g = rw (add-mul-div_right w c (pow_pos n), div-eq_of_lt h) (rw (zero-add c) (mod-eq_of_lt g))

doubled : (a b c : ℕ) → c * (a * 2 * b) ≡ 2 * (c * a) * b
doubled a b c = sym (mul_assoc c (a * 2) b) ∙ ap (λ z. z * b) (sym (mul_assoc c a 2) ∙ mul_comm (c * a) 2)

low_bit : (k d w c : ℕ) → (w + c * 2 ^ (suc d + k)) / 2 ^ k % 2 ≡ w / 2 ^ k % 2
low_bit k d w c =
    rw (pow-add 2 (suc d) k, pow-suc 2 d, doubled (2 ^ d) (2 ^ k) c, add-mul-div_right w (2 * (c * 2 ^ d)) (pow_pos k))
    (add-mul-mod_self_left (w / 2 ^ k) 2 (c * 2 ^ d))

bit_set : (n i : ℕ) (ps : List ℕ) (k : ℕ) → k < n → bits_below n i ps / 2 ^ k % 2 ≡ cond (among (32 * i + k) ps) 1 0
unfolding bits_below
bit_set zero i ps k h = absurd (omega arith)
bit_set (suc n) i ps k h = go (eqb k n) refl (bit_set n i ps k)
  where
    term : (x : Bool) → cond x (2 ^ n) 0 ≡ cond x 1 0 * 2 ^ n
    term true = omega arith
    term false = omega arith

    one : (x : Bool) → cond x 1 0 < 2
    one true = omega arith
    one false = omega arith

    go : (x : Bool) → eqb k n ≡ x → (k < n → bits_below n i ps / 2 ^ k % 2 ≡ cond (among (32 * i + k) ps) 1 0)
        → (bits_below n i ps + cond (among (32 * i + n) ps) (2 ^ n) 0) / 2 ^ k % 2 ≡ cond (among (32 * i + k) ps) 1 0
    go true e r =
        let x = among (32 * i + n) ps in
        rw (eqb-true k n e, term x) (top_bit n (bits_below n i ps) (cond x 1 0) (bits_lt n i ps) (one x))
    go false e r =
        let a : (k ≡ n → ⊥) = eqb-false k n e in
        let b : n ≡ suc (n - suc k) + k = omega arith in
        let q = low_bit k (n - suc k) (bits_below n i ps) (cond (among (32 * i + n) ps) 1 0) in
        rw (term (among (32 * i + n) ps)) (rw (← b) at q ∙ r (omega arith))

-- the bit of a pointer, of 353 words
pub table_bit : (ps : List ℕ) (p : ℕ) → p < 11296 → get_or (table ps) (p / 32) 0 / 2 ^ (p % 32) % 2 ≡ cond (among p ps) 1 0
table_bit ps p h =
    let e : 32 * (p / 32) + p % 32 ≡ p = omega arith in
    rw (table_at ps (p / 32) (omega arith)) (rw e at (bit_set 32 (p / 32) ps (p % 32) (omega arith)))
