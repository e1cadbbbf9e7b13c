-- Stop at the first bad name byte: request d), "the test of one name's bytes leaves its loop at the first fault and returns
-- its place: that of the first byte, read left to right, that starts neither a good single byte nor a good pair, or the length
-- where all is good. Refusals and their order stay."
use Rattle.std.specs.Prelude.{ℕ, zero, suc, ◌+◌, ◌≤◌, ◌<◌, ◌≡◌, ◌↔◌, ◌⊎◌, Bool, true, false, ◌&&◌, length, take, drop, leb, eqb}
use Rattle.std.proofs.Math.Path.{refl, ap, sym}
use Rattle.std.proofs.Common.{◌∙◌, subst, inl, inr, arith, eqb-true, eq-eqb, ne_eqb, leb-true, le-leb, take-append-drop, length-take-le}
use Rattle.std.proofs.Math.Bool.{and-eq-true_iff}
use mathlib.Core.List.{List, [], ◌∷◌, ◌++◌, map, append-nil}
use Rattle.std.proofs.lemmas.Bool.{eqb-false, lt-leb}
use Rattle.std.proofs.Math.Seq.{take-length, take-append_seam, drop-append_seam}
use Rattle.vmd_format.specs.Bytes.{before_zero}
use Rattle.vmd_format.specs.Refusal.{Refusal, name_unfit, name_not_good}
use Rattle.vmd_laws.specs.ReadLaws.{All}
use Rattle.vmd_format.specs.Records.{IkState}
use Rattle.vmd_format.specs.Characters.{between, pointer, character}
use Rattle.vmd_format.specs.Names.{single, lead, trail, pair, unit, fault, good}
use Rattle.vmd_laws.specs.CharacterLaws.{either_range, pair_is}
use Rattle.vmd_laws.specs.NamesLaws.{unit_end, unit_single, unit_cut, unit_two, fault_none, fault_unit}
use Rattle.vmd_format.specs.Parts.{Parts, names_of, Check, passes, fails, ◌next◌, need, each, whole_parts, name_check, ik_check, parts_check}
use Rattle.vmd_laws.specs.PartsLaws.{next_assoc, each_mapped, before_zero_all}

-- ---- the place

-- good single bytes and good pairs one after another: document 01, "when they read left to right as .."
pub data Units : List ℕ → Type 0 where
  none : Units []
  one : {a : ℕ} {s : List ℕ} → single a ≡ true → Units s → Units (a ∷ s)
  two : {a b : ℕ} {s : List ℕ} → pair a b ≡ true → Units s → Units (a ∷ b ∷ s)

-- the first byte starts a good single byte or a good pair; where there is none, nothing starts
pub data Starts : List ℕ → Type 0 where
  a_single : {a : ℕ} {s : List ℕ} → single a ≡ true → Starts (a ∷ s)
  a_pair : {a b : ℕ} {s : List ℕ} → pair a b ≡ true → Starts (a ∷ b ∷ s)

-- all before the place is good single bytes and good pairs, and at the place neither starts
pub record FirstFault (s : List ℕ) (i : ℕ) : Type 0 where
  pub within : i ≤ length s
  pub before : Units (take i s)
  pub stops : Starts (drop i s) → ⊥

lead_single : (a : ℕ) → lead a ≡ true → single a ≡ false
unfolding lead single between
lead_single a e = go (either_range 129 159 224 252 a e)
  where
    go : ((129 ≤ a) × (a ≤ 159)) ⊎ ((224 ≤ a) × (a ≤ 252)) → single a ≡ false
    go (inl h) = rw (lt-leb a 128 (omega arith), lt-leb 161 a (omega arith))
    go (inr h) = rw (lt-leb a 128 (omega arith), lt-leb a 223 (omega arith), le-leb 161 a (omega arith))

-- a lead is no single byte
pair_single : (a b : ℕ) → pair a b ≡ true → single a ≡ false
pair_single a b e = lead_single a ((pair_is a b).0 e).0

unit_pair : (a b : ℕ) (s : List ℕ) → pair a b ≡ true → unit (a ∷ b ∷ s) ≡ 2
unit_pair a b s h = rw h at (unit_two (a ∷ b ∷ s) 0 (omega arith) (pair_single a b h))

fault_past : (n : ℕ) (s : List ℕ) → unit s ≡ suc n → fault s ≡ suc n + fault (drop (suc n) s)
fault_past n s e = rw e at (fault_unit s (rw e (omega arith)))

fault_single : (a : ℕ) (s : List ℕ) → single a ≡ true → fault (a ∷ s) ≡ suc (fault s)
fault_single a s h = omega (arith, fault_past 0 (a ∷ s) (unit_single (a ∷ s) 0 (omega arith) h))

fault_pair : (a b : ℕ) (s : List ℕ) → pair a b ≡ true → fault (a ∷ b ∷ s) ≡ suc (suc (fault s))
fault_pair a b s h = omega (arith, fault_past 1 (a ∷ b ∷ s) (unit_pair a b s h))

-- what stands at the front
front : (s : List ℕ) → Starts s ⊎ (unit s ≡ 0)
front [] = inr (unit_end [] 0 (omega arith))
front (a ∷ s) = go s (single a) refl
  where
    second : (b : ℕ) (t : List ℕ) (y : Bool) → single a ≡ false → pair a b ≡ y → Starts (a ∷ b ∷ t) ⊎ (unit (a ∷ b ∷ t) ≡ 0)
    second b t true e h = inl (a_pair h)
    second b t false e h = inr (rw h at (unit_two (a ∷ b ∷ t) 0 (omega arith) e))

    go : (t : List ℕ) (x : Bool) → single a ≡ x → Starts (a ∷ t) ⊎ (unit (a ∷ t) ≡ 0)
    go t true e = inl (a_single e)
    go [] false e = inr (unit_cut (a ∷ []) 0 refl e)
    go (b ∷ t) false e = second b t (pair a b) e refl

starts_unit : {s : List ℕ} → Starts s → 0 < unit s
starts_unit (a_single {a} {s} h) = rw (unit_single (a ∷ s) 0 (omega arith) h) (omega arith)
starts_unit (a_pair {a} {b} {s} h) = rw (unit_pair a b s h) (omega arith)

none_starts : (s : List ℕ) → (Starts s → ⊥) → unit s ≡ 0
none_starts s h = go (front s)
  where
    go : Starts s ⊎ (unit s ≡ 0) → unit s ≡ 0
    go (inl k) = absurd (h k)
    go (inr e) = e

-- good single bytes and good pairs are passed over
units_over : {t : List ℕ} → Units t → (u : List ℕ) → fault (t ++ u) ≡ length t + fault u
units_over none u = omega arith
units_over (one {a} {s} h r) u = omega (arith, fault_single a (s ++ u) h, units_over r u)
units_over (two {a} {b} {s} h r) u = omega (arith, fault_pair a b (s ++ u) h, units_over r u)

-- the fault of what is left, after what is passed over
found_from : (s : List ℕ) → ((t : List ℕ) → length t < length s → FirstFault t (fault t)) → Starts s ⊎ (unit s ≡ 0) → FirstFault s (fault s)
found_from s rest (inr e) = rw (fault_none s e) record { within = omega arith; before = none; stops = λ k. omega (arith, starts_unit k) }
found_from [] rest (inl x) = elim x [ ]
found_from (a ∷ s) rest (inl (a_single h)) =
    let f = rest s (omega arith) in
    rw (fault_single a s h) record { within = omega (arith, f.within); before = one h f.before; stops = f.stops }
found_from (a ∷ b ∷ s) rest (inl (a_pair h)) =
    let f = rest s (omega arith) in
    rw (fault_pair a b s h) record { within = omega (arith, f.within); before = two h f.before; stops = f.stops }

found : (n : ℕ) (s : List ℕ) → length s ≤ n → FirstFault s (fault s)
found zero s h = found_from s (λ t k. absurd (omega arith)) (front s)
found (suc n) s h = found_from s (λ t k. found n t (omega arith)) (front s)

-- there is one such place, and it is what the name test gives
pub first_fault : (s : List ℕ) (i : ℕ) → (fault s ≡ i) ↔ FirstFault s i
first_fault s i = (λ e. subst (FirstFault s) e (found (length s) s (omega arith)), only)
  where
    only : FirstFault s i → fault s ≡ i
    only f =
        let e : fault s ≡ length (take i s) + fault (drop i s) = rw (take-append-drop i s) at (units_over f.before (drop i s)) in
        omega (arith, length-take-le i s f.within, fault_none (drop i s) (none_starts (drop i s) f.stops))

-- the byte at the place and the next one decide, whatever comes after them
pub fault_decides : (p : List ℕ) (a b : ℕ) (s t : List ℕ) → fault (p ++ a ∷ b ∷ s) ≡ length p → fault (p ++ a ∷ b ∷ t) ≡ length p
unfolding unit
fault_decides p a b s t e =
    let f = (first_fault (p ++ a ∷ b ∷ s) (length p)).0 e in
    let h : unit (a ∷ b ∷ s) ≡ 0 = none_starts (a ∷ b ∷ s) (rw (drop-append_seam p (a ∷ b ∷ s)) at f.stops) in
    omega (arith, units_over (rw (take-append_seam p (a ∷ b ∷ s)) at f.before) (a ∷ b ∷ t), fault_none (a ∷ b ∷ t) h)

-- "Refusal 7 covers the rest": a lead and a trail without a character are a fault, at the lead's place (02 h)
pub no_character : {t : List ℕ} → Units t → (a b : ℕ) (s : List ℕ) → lead a ≡ true → character (pointer a b) ≡ false
    → fault (t ++ a ∷ b ∷ s) ≡ length t
unfolding pair
no_character r a b s l e =
    let p : pair a b ≡ false = rw (l, e) (and_false (trail b)) in
    let h : unit (a ∷ b ∷ s) ≡ 0 = rw p at (unit_two (a ∷ b ∷ s) 0 (omega arith) (lead_single a l)) in
    omega (arith, units_over r (a ∷ b ∷ s), fault_none (a ∷ b ∷ s) h)
  where
    and_false : (x : Bool) → (x && false) ≡ false
    and_false true = refl
    and_false false = refl

-- a good name is good single bytes and good pairs to its end
pub good_units : (s : List ℕ) → (good s ≡ true) ↔ Units s
unfolding good
good_units s = (
  λ e. rw (take-length s) at ((first_fault s (length s)).0 (eqb-true (fault s) (length s) e)).before,
  λ r. eq-eqb (fault s) (length s)
      (let e : fault s ≡ length s + fault [] = rw (append-nil s) at (units_over r []) in omega (arith, fault_none [] (unit_end [] 0 (omega arith)))),
)

-- a name that is not good has its fault before the end
pub not_good : (s : List ℕ) → (good s ≡ false) ↔ (fault s < length s)
unfolding good
not_good s = (
  λ e. omega (arith, ((first_fault s (fault s)).0 refl).within, eqb-false (fault s) (length s) e),
  λ h. ne_eqb (fault s) (length s) (λ q. omega arith),
)

-- ---- what the builder turns down

-- 7 is given for a name, of the model or of a table, just where its fault is before its end
pub name_faulty : (width : ℕ) (s : List ℕ) → (name_check width s ≡ fails name_not_good) ↔ ((length s ≤ width) × (before_zero s ≡ s) × (fault s < length s))
unfolding name_check need ◌next◌
name_faulty width s = (go (leb (length s) width && eqb (length (before_zero s)) (length s)) (good s) refl refl, back)
  where
    go : (x y : Bool) → (leb (length s) width && eqb (length (before_zero s)) (length s)) ≡ x → good s ≡ y
        → (need x name_unfit next need y name_not_good) ≡ fails name_not_good → (length s ≤ width) × (before_zero s ≡ s) × (fault s < length s)
    go true false e g h = let p = (and-eq-true_iff _ _).0 e in (leb-true _ _ p.0, before_zero_all s (eqb-true _ _ p.1), (not_good s).0 g)
    go true true e g h = let z : ◌≡◌ {A = ℕ} 0 1 = cc in absurd (omega arith)
    go false y e g h = let z : ◌≡◌ {A = ℕ} 0 1 = cc in absurd (omega arith)

    back : (length s ≤ width) × (before_zero s ≡ s) × (fault s < length s) → name_check width s ≡ fails name_not_good
    back (a, b, c) = rw (le-leb (length s) width a, b, eq-eqb (length s) (length s) refl, (not_good s).1 c)

-- and for an IK state's
pub ik_faulty : (k : IkState) → (ik_check k ≡ fails name_not_good) ↔ (fault k.name < length k.name)
unfolding ik_check need
ik_faulty k = (go (good k.name) refl, λ h. rw ((not_good k.name).1 h))
  where
    go : (x : Bool) → good k.name ≡ x → need x name_not_good ≡ fails name_not_good → fault k.name < length k.name
    go true g h = let z : ◌≡◌ {A = ℕ} 0 1 = cc in absurd (omega arith)
    go false g h = (not_good k.name).0 g

-- the model's name and the tables' in the order of their tests, each with the width of its field; IK names come after records
abbrev in_table : List ℕ → ℕ × List ℕ
in_table s = (15, s)

pub tested_names : Parts → List (ℕ × List ℕ)
tested_names p = (20, p.model) ∷ map in_table (names_of p.bone_names) ++ map in_table (names_of p.morph_names)

abbrev pub field_check : ℕ × List ℕ → Check
field_check n = name_check n.0 n.1

module _ {A : Type 0} (f : A → Check) where
  each_append : (l m : List A) → each f (l ++ m) ≡ (each f l next each f m)
  unfolding each ◌next◌
  each_append [] m = refl
  each_append (a ∷ l) m = ap (λ c. f a next c) (each_append l m) ∙ sym (next_assoc (f a) (each f l) (each f m))

  each_decided : (k : Refusal) (l m : List A) (a : A) → All (λ b. f b ≡ passes) l → f a ≡ fails k → each f (l ++ a ∷ m) ≡ fails k
  unfolding each ◌next◌
  each_decided k [] m a h e = rw e
  each_decided k (b ∷ l) m a h e = rw h.0 (each_decided k l m a h.1 e)

in_turn : (p : Parts)
    → each field_check (tested_names p) ≡ (name_check 20 p.model next each (name_check 15) (names_of p.bone_names) next each (name_check 15) (names_of p.morph_names))
unfolding tested_names each
in_turn p = rw (each_append field_check (map in_table (names_of p.bone_names)), each_mapped field_check in_table (names_of p.bone_names), each_mapped field_check in_table (names_of p.morph_names))

-- where the parts are whole, the first of these names that is turned down decides, whatever the names after it and all other
-- parts hold
pub first_name_decides : (p : Parts) (l m : List (ℕ × List ℕ)) (n : ℕ × List ℕ) (k : Refusal) → whole_parts p ≡ passes → tested_names p ≡ l ++ n ∷ m
    → All (λ a. field_check a ≡ passes) l → field_check n ≡ fails k → parts_check p ≡ fails k
unfolding parts_check ◌next◌
first_name_decides p l m n k w e h d =
    rw (w, ← next_assoc (each (name_check 15) (names_of p.bone_names)), ← next_assoc (name_check 20 p.model), ← in_turn p, e, each_decided field_check k l m n h d)
