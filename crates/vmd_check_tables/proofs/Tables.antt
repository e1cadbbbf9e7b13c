-- Laws of name tables for code. Assumes nothing.
use Prim.Native.Nat.{ℕ, zero, suc, ◌+◌, ◌-◌, ◌≤◌, ◌<◌}
use mathlib.Core.Path.{◌≡◌, refl, sym, ◌∙◌}
use mathlib.Core.Bool.{true, false, ◌&&◌, and-eq-true_iff}
use mathlib.Core.List.{List, [], ◌∷◌}
use native.Mathlib.Numerals.{add-one}
use native.Mathlib.Omega.{arith}
use borrow.Author.Tests.{leb-true, le-leb, lt-leb, eqb-true}
use lib.ListN.{length, get_or, take, drop, drop_of_length-le}
use lib.Seq.{drop-cons}
use lib.Dec.{leb, eqb}
use Rattle.vmd_format.specs.Refusal.{Refusal}
use Rattle.vmd_format.specs.Parts.{Check, passes, fails, ◌next◌, each, names_from, names_of, ends_right, table_right}
use Rattle.vmd_check_tables.specs.Meaning.{table_of}
use Rattle.vmd_names.proofs.Checks.{chain_fails, chain_on}

-- ---- ends

module _ (n : ℕ) where
  ends_le : (at : ℕ) (l : List ℕ) → ends_right at l n ≡ true → at ≤ n
  unfolding ends_right
  ends_le at [] e = omega (arith, eqb-true at n e)
  ends_le at (x ∷ l) e =
      let p = (and-eq-true_iff _ _).0 e in
      omega (arith, leb-true at x p.0, ends_le x l p.1)

  -- a name begins where the one before it ends, and ends in the bytes
  ends_between : (at : ℕ) (l : List ℕ) (i : ℕ) → i < length l → ends_right at l n ≡ true
      → (get_or (at ∷ l) i 0 ≤ get_or l i 0) × (get_or l i 0 ≤ n)
  unfolding ends_right
  ends_between at [] i h e = absurd (omega arith)
  ends_between at (x ∷ l) zero h e =
      let p = (and-eq-true_iff _ _).0 e in
      (leb-true at x p.0, ends_le x l p.1)
  ends_between at (x ∷ l) (suc i) h e = ends_between x l i (omega arith) ((and-eq-true_iff (leb at x) (ends_right x l n)).0 e).1

  module _ (l : List ℕ) (at i : ℕ) where
    ends_turn : i < length l → ends_right at (drop i l) n ≡ (leb at (get_or l i 0) && ends_right (get_or l i 0) (drop (i + 1) l) n)
    unfolding ends_right
    ends_turn h = rw (drop-cons l i 0 h, add-one)

    -- the end at a place, where those from there on are right
    end_between : i < length l → ends_right at (drop i l) n ≡ true → (at ≤ get_or l i 0) × (get_or l i 0 ≤ n)
    end_between h e =
        let p = (and-eq-true_iff _ _).0 (sym (ends_turn h) ∙ e) in
        (leb-true at (get_or l i 0) p.0, ends_le (get_or l i 0) (drop (i + 1) l) p.1)

-- what holds before each turn of a loop over the ends: those from i on are right just where all are
pub record Ending (l : List ℕ) (n at i : ℕ) : Type 0 where
  pub whole : ends_right at (drop i l) n ≡ ends_right 0 l n

module _ {l : List ℕ} {n : ℕ} where
  pub ending_start : Ending l n 0 0
  ending_start = record { whole = refl }

  module _ {at i : ℕ} (g : Ending l n at i) where
    pub ending_fails : i < length l → get_or l i 0 < at → false ≡ ends_right 0 l n
    ending_fails h f = sym (ends_turn n l at i h ∙ rw (lt-leb at (get_or l i 0) f)) ∙ g.whole

    pub ending_turn : i < length l → at ≤ get_or l i 0 → Ending l n (get_or l i 0) (i + 1)
    ending_turn h f = record { whole = sym (ends_turn n l at i h ∙ rw (le-leb at (get_or l i 0) f)) ∙ g.whole }

    pub ending_end : length l ≤ i → eqb at n ≡ ends_right 0 l n
    unfolding ends_right
    ending_end h = rw (drop_of_length-le l h) at g.whole

-- ---- names

name_there : (s : List ℕ) (at : ℕ) (l : List ℕ) (i : ℕ) → i < length l
    → get_or (names_from at l s) i [] ≡ take (get_or l i 0 - get_or (at ∷ l) i 0) (drop (get_or (at ∷ l) i 0) s)
unfolding names_from
name_there s at [] i h = absurd (omega arith)
name_there s at (x ∷ l) zero h = refl
name_there s at (x ∷ l) (suc i) h = name_there s x l i (omega arith)

-- what holds before each turn of a loop that checks the names from i on
pub record Naming (f : List ℕ → Check) (s l : List ℕ) (at i : ℕ) : Type 0 where
  pub right : ends_right at (drop i l) (length s) ≡ true
  pub whole : each f (names_from at (drop i l) s) ≡ each f (names_of (table_of s l))

module _ {f : List ℕ → Check} {s l : List ℕ} where
  pub naming_start : table_right (table_of s l) ≡ true → Naming f s l 0 0
  unfolding table_right names_of
  naming_start h = record { right = h; whole = refl }

  module _ {at i : ℕ} (g : Naming f s l at i) where
    names_turn : i < length l
        → each f (names_from at (drop i l) s) ≡ (f (take (get_or l i 0 - at) (drop at s)) next each f (names_from (get_or l i 0) (drop (i + 1) l) s))
    unfolding names_from each
    names_turn h = rw (drop-cons l i 0 h, add-one)

    pub naming_fits : i < length l → (at ≤ get_or l i 0) × (get_or l i 0 ≤ length s)
    naming_fits h = end_between (length s) l at i h g.right

    pub naming_fails : {k : Refusal} → i < length l → fails k ≡ f (take (get_or l i 0 - at) (drop at s)) → fails k ≡ each f (names_of (table_of s l))
    naming_fails h e = chain_fails _ e ∙ sym (names_turn h) ∙ g.whole

    pub naming_turn : i < length l → passes ≡ f (take (get_or l i 0 - at) (drop at s)) → Naming f s l (get_or l i 0) (i + 1)
    naming_turn h e = record {
      right = ((and-eq-true_iff (leb at (get_or l i 0)) _).0 (sym (ends_turn (length s) l at i h) ∙ g.right)).1;
      whole = chain_on _ e refl ∙ sym (names_turn h) ∙ g.whole;
    }

    pub naming_end : length l ≤ i → passes ≡ each f (names_of (table_of s l))
    unfolding names_from each
    naming_end h = rw (drop_of_length-le l h) at g.whole

-- ---- the name at an index

pub table_between : (s l : List ℕ) (i : ℕ) → table_right (table_of s l) ≡ true → i < length l
    → (get_or {A = ℕ} (0 ∷ l) i 0 ≤ get_or l i 0) × (get_or l i 0 ≤ length s)
unfolding table_right
table_between s l i e h = ends_between (length s) 0 l i h e

pub table_name_there : (s l : List ℕ) (i : ℕ) → i < length l
    → take (get_or l i 0 - get_or {A = ℕ} (0 ∷ l) i 0) (drop (get_or {A = ℕ} (0 ∷ l) i 0) s) ≡ get_or (names_of (table_of s l)) i []
unfolding names_of
table_name_there s l i h = sym (name_there s 0 l i h)
