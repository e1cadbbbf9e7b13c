-- Laws of the name test for code. Assumes nothing.
use Prim.Native.Nat.{ℕ, zero, suc, ◌+◌, ◌≤◌, ◌<◌, ◌-◌}
use mathlib.Core.Path.{◌≡◌, refl, sym, ◌∙◌}
use mathlib.Core.Bool.{Bool, true, false, cond, ◌&&◌, ◌||◌, and-eq-true_iff}
use mathlib.Core.List.{List}
use native.Mathlib.Numerals.{add-one}
use native.Mathlib.Omega.{arith}
use borrow.Author.Tests.{le-leb, lt-leb, le-ltb, lt-ltb, eq-eqb, ne_eqb, leb-true}
use lib.ListN.{length, get_or, drop, length-drop, drop_of_length-le}
use lib.Seq.{drop-drop, drop-cons}
use lib.Dec.{ltb, leb, eqb}
use Rattle.std.specs.Prelude.{Option, Some, None}
use Rattle.vmd_format.specs.Bytes.{before_zero}
use Rattle.vmd_format.specs.Characters.{between, pointer, character}
use Rattle.vmd_format.specs.Names.{single, lead, trail, pair, unit, fault, good}
use Rattle.vmd_laws.specs.CharacterLaws.{pointer_below}
use Rattle.vmd_laws.specs.NamesLaws.{field_past, field_stop, field_end, unit_single, unit_cut, unit_two, unit_le, GoodTo, fault_step}
use Rattle.vmd_names.specs.Meaning.{unit_if_any}
use Rattle.vmd_format.specs.Refusal.{name_unfit, name_not_good}
use Rattle.vmd_format.specs.Parts.{Check, fails, ◌next◌, need, name_check}

-- ---- numbers of leads and trails: bytes from low to end, and from gap to last

pub between_holds : (low high b : ℕ) {r : Bool} → r ≡ between low high b → r ≡ true → (low ≤ b) × (b ≤ high)
unfolding between
between_holds low high b e t =
    let p = (and-eq-true_iff (leb low b) (leb b high)).0 (sym e ∙ t) in
    (leb-true low b p.0, leb-true b high p.1)

module _ (low end gap last high b : ℕ) {r : Bool} (e : r ≡ between low end b) where
  abbrev numbered : Option ℕ
  numbered = cond (between low end b || between gap last b) (Some (b - cond (ltb b gap) low high)) None

  pub in_lower : end < gap → r ≡ true → Some (b - low) ≡ numbered
  in_lower h t =
      let k = between_holds low end b e t in
      rw (← e, t, lt-ltb b gap (omega arith))

  pub in_upper : {q : Bool} → q ≡ between gap last b → r ≡ false → q ≡ true → Some (b - high) ≡ numbered
  in_upper f t u =
      let k = between_holds gap last b f u in
      rw (← e, t, ← f, u, le-ltb b gap (omega arith))

-- ---- pairs: the pointer of the lead and of the trail

pub no_number : (x : Bool) (n : ℕ) → None ≡ cond x (Some n) None → x ≡ false
no_number true n e = let z : ◌≡◌ {A = ℕ} 0 1 = cc in absurd (omega arith)
no_number false n e = refl

pub number_there : (x : Bool) (n m : ℕ) → Some m ≡ cond x (Some n) None → (x ≡ true) × (m ≡ n)
number_there true n m e = (refl, (cc))
number_there false n m e = let z : ◌≡◌ {A = ℕ} 0 1 = cc in absurd (omega arith)

module _ (a b : ℕ) where
  pub no_pointer : None ≡ cond (lead a && trail b) (Some (pointer a b)) None → false ≡ pair a b
  unfolding pair
  no_pointer e = go (lead a) (trail b) (no_number (lead a && trail b) (pointer a b) e)
    where
      go : (x y : Bool) → (x && y) ≡ false → false ≡ (x && (y && character (pointer a b)))
      go true true f = sym f ∙ absurd (let z : ◌≡◌ {A = ℕ} 0 1 = cc in omega arith)
      go true false f = refl
      go false y f = refl

  module _ {p : ℕ} (e : Some p ≡ cond (lead a && trail b) (Some (pointer a b)) None) where
    both : (lead a ≡ true) × (trail b ≡ true)
    both = (and-eq-true_iff (lead a) (trail b)).0 (number_there (lead a && trail b) (pointer a b) p e).0

    pub pointer_fits : p < 11280
    pointer_fits = rw (number_there (lead a && trail b) (pointer a b) p e).1 (pointer_below a b both.0 both.1)

    pub paired : {r : Bool} → r ≡ character p → r ≡ pair a b
    unfolding pair
    paired g = rw (both.0, both.1, ← (number_there (lead a && trail b) (pointer a b) p e).1) g

-- ---- what stands at a place

module _ (s : List ℕ) (i : ℕ) {r : Bool} (e : r ≡ single (get_or s i 0)) where
  pub single_there : i < length s → r ≡ true → 1 ≡ unit (drop i s)
  single_there h t = sym (unit_single s i h (sym e ∙ t))

  -- the last byte
  pub last_there : suc i ≡ length s → r ≡ false → unit (drop i s) ≡ 0
  last_there h f = unit_cut s i h (sym e ∙ f)

  module _ {q : Bool} (h : i + 1 < length s) (f : r ≡ false) (p : q ≡ pair (get_or s i 0) (get_or s (i + 1) 0)) where
    pub pair_there : q ≡ true → 2 ≡ unit (drop i s)
    pair_there t = sym (unit_two s i (omega arith) (sym e ∙ f) ∙ rw (← add-one i, ← p, t))

    pub none_there : q ≡ false → unit (drop i s) ≡ 0
    none_there t = unit_two s i (omega arith) (sym e ∙ f) ∙ rw (← add-one i, ← p, t)

-- of a unit or none by its number of bytes, and back
module _ {u : ℕ} where
  pub unit_none : u ≡ 0 → None ≡ unit_if_any u
  unit_none e = rw e refl

  pub unit_some : {n : ℕ} → suc n ≡ u → Some (suc n) ≡ unit_if_any u
  unit_some e = rw (← e) refl

pub none_unit : (u : ℕ) → None ≡ unit_if_any u → u ≡ 0
none_unit zero e = refl
none_unit (suc u) e = let z : ◌≡◌ {A = ℕ} 0 1 = cc in absurd (omega arith)

pub some_unit : {n : ℕ} (u : ℕ) → Some n ≡ unit_if_any u → (0 < n) × (n ≡ u)
some_unit zero e = let z : ◌≡◌ {A = ℕ} 0 1 = cc in absurd (omega arith)
some_unit (suc u) e = let k : _ ≡ suc u = cc in (omega (arith, k), k)

module _ (s : List ℕ) (i : ℕ) where
  pub unit_within : {n : ℕ} → n ≡ unit (drop i s) → i ≤ length s → i + n ≤ length s
  unit_within e h = omega (arith, unit_le (drop i s), length-drop i s)

  -- a turn of the loop
  pub good_turn : {n : ℕ} → n ≡ unit (drop i s) → 0 < n → GoodTo s i → GoodTo s (i + n)
  good_turn e h g = rw e (fault_step s i g (rw (← e) h))

-- ---- a name in its field: the field is good as what is left of it is

abbrev pub FieldTo : List ℕ → ℕ → Type 0
FieldTo s i = good (before_zero s) ≡ good (before_zero (drop i s))

module _ (s : List ℕ) (i : ℕ) (g : FieldTo s i) where
  pub field_ends : length s ≤ i → true ≡ good (before_zero s)
  field_ends h = sym (g ∙ field_end (drop i s) (rw (drop_of_length-le s h)))

  module _ (h : i < length s) where
    head_there : get_or (drop i s) 0 0 ≡ get_or s i 0
    head_there = rw (drop-cons s i 0 h)

    pub field_zero : get_or s i 0 ≡ 0 → true ≡ good (before_zero s)
    field_zero z = sym (g ∙ field_end (drop i s) (head_there ∙ z))

    module _ (z : get_or s i 0 ≡ 0 → ⊥) where
      pub field_faulty : unit (drop i s) ≡ 0 → false ≡ good (before_zero s)
      field_faulty k = sym (g ∙ field_stop (drop i s) (λ q. z (sym head_there ∙ q)) k)

      pub field_turn : {n : ℕ} → n ≡ unit (drop i s) → 0 < n → FieldTo s (i + n)
      field_turn {n = n} e k = rw (← drop-drop n i s, e) (g ∙ field_past (drop i s) (λ q. z (sym head_there ∙ q)) (rw (← e) k))

-- ---- a name that fits its field: t is what stands before its first zero

module _ (width : ℕ) (s : List ℕ) where
  pub name_long : width < length s → fails name_unfit ≡ name_check width s
  unfolding name_check need ◌next◌
  name_long h = rw (lt-leb (length s) width h)

  module _ {t : List ℕ} (h : length s ≤ width) (e : t ≡ before_zero s) where
    pub name_zero : (length t ≡ length s → ⊥) → fails name_unfit ≡ name_check width s
    unfolding name_check need ◌next◌
    name_zero z = rw (le-leb (length s) width h, ← e, ne_eqb (length t) (length s) z)

    pub name_rest : {i : ℕ} → length t ≡ length s → i ≡ fault s → {c : Check} → c ≡ need (eqb i (length s)) name_not_good → c ≡ name_check width s
    unfolding name_check need ◌next◌ good
    name_rest z g q = rw (le-leb (length s) width h, ← e, eq-eqb (length t) (length s) z, ← g) q
