-- Laws of statuses, slots and parts for code. Assumes nothing.
use Prim.Native.Nat.{ℕ, ◌<◌}
use mathlib.Core.Path.{◌≡◌, refl, ap, sym, ◌∙◌}
use mathlib.Core.List.{List, [], ◌∷◌}
use native.Mathlib.Omega.{arith}
use lib.ListN.{length}
use Rattle.std.specs.Prelude.{Result, Ok, Err}
use Rattle.vmd_format.specs.Refusal.{Refusal, number}
use Rattle.vmd_format.specs.Answer.{Answer, declined, given, map_answer}
use Rattle.vmd_format.specs.Layout.{Layout}
use Rattle.vmd_format.specs.Opening.{Extent, Scan}
use Rattle.vmd_format.specs.Fetch.{record_place, fetch, or_empty, fetch_property, fetch_ik_state}
use Rattle.vmd_format.specs.Join.{joined_model}
use Rattle.vmd_base.specs.declared.VmdPart.{VmdPart}
use Rattle.vmd_base.specs.declared.VmdRefusal.{VmdRefusal}
use Rattle.vmd_base.specs.Meaning.{answer, answer_of}
use Rattle.vmd_places.specs.Meaning.{ik_place}
use Rattle.vmd_places.specs.Parts.{part_in}
use Rattle.vmd_slots.specs.Meaning.{status, slot_after, joined_words}

-- ---- an opening made of counts and places serves the calls as the sections that these say

pub fetch_at : {A : Type 0} (K : Layout A) (pick : Scan → Extent) (i : ℕ) (s : List ℕ) {x y : Scan} → x ≡ y → fetch K (pick x) i s ≡ fetch K (pick y) i s
fetch_at K pick i s e = ap (λ x. fetch K (pick x) i s) e

pub fetch_property_at : (scratch : List ℕ) (i : ℕ) (s : List ℕ) {x y : Scan} → x ≡ y
    → fetch_property x.properties scratch i s ≡ fetch_property y.properties scratch i s
fetch_property_at scratch i s e = ap (λ x. fetch_property x.properties scratch i s) e

pub fetch_ik_at : (scratch : List ℕ) (i j : ℕ) (s : List ℕ) {x y : Scan} → x ≡ y
    → fetch_ik_state x.properties scratch i j s ≡ fetch_ik_state y.properties scratch i j s
fetch_ik_at scratch i j s e = ap (λ x. fetch_ik_state x.properties scratch i j s) e

-- the part that a call gave
pub field_part_at : {A : Type 0} (K : Layout A) (size : ℕ) (field : A → List ℕ) (offset : ℕ) (pick : Scan → Extent) (i : ℕ) (s : List ℕ) {x y : Scan} {p : VmdPart}
    → x ≡ y → p ≡ part_in (record_place size (pick x) i s) offset (or_empty (map_answer field (fetch K (pick x) i s)))
    → p ≡ part_in (record_place size (pick y) i s) offset (or_empty (map_answer field (fetch K (pick y) i s)))
field_part_at K size field offset pick i s e q =
    q ∙ ap (λ x. part_in (record_place size (pick x) i s) offset (or_empty (map_answer field (fetch K (pick x) i s)))) e

pub ik_part_at : (scratch : List ℕ) (i j : ℕ) (s : List ℕ) {x y : Scan} {p : VmdPart}
    → x ≡ y → p ≡ part_in (ik_place x.properties scratch i j s) 0 (or_empty (map_answer (λ x. x.name) (fetch_ik_state x.properties scratch i j s)))
    → p ≡ part_in (ik_place y.properties scratch i j s) 0 (or_empty (map_answer (λ x. x.name) (fetch_ik_state y.properties scratch i j s)))
ik_part_at scratch i j s e q =
    q ∙ ap (λ x. part_in (ik_place x.properties scratch i j s) 0 (or_empty (map_answer (λ x. x.name) (fetch_ik_state x.properties scratch i j s)))) e

-- ---- statuses and slots

module _ {A : Type 0} {y : Answer A} where
  pub status_declined : {k : Refusal} {n : ℕ} → y ≡ declined k → n ≡ number k → n ≡ status y
  unfolding status
  status_declined e q = rw e q

  pub status_given : {v : A} → y ≡ given v → 0 ≡ status y
  unfolding status
  status_given e = rw e

  module _ {C : Type 0} (h : A → C) (old : C) where
    pub slot_declined : {k : Refusal} → y ≡ declined k → old ≡ slot_after old h y
    unfolding slot_after
    slot_declined e = rw e

    pub slot_given : {v : A} {l : C} → y ≡ given v → l ≡ h v → l ≡ slot_after old h y
    unfolding slot_after
    slot_given e q = rw e q

-- the status and the slot of an answer x, which is y
pub handed : {A C : Type 0} (h : A → C) (old : C) {x y : Answer A} {n : ℕ} {l : C} → (n ≡ status x) × (l ≡ slot_after old h x) → x ≡ y
    → (n ≡ status y) × (l ≡ slot_after old h y)
handed h old (p, q) e = (p ∙ ap status e, q ∙ ap (slot_after old h) e)

-- ---- a call whose answer a has what f makes of the value of x, where the contract speaks of y

-- the value of y, of which b is made
pub record Arrived {A B : Type 0} (f : A → B) (y : Answer A) (b : B) : Type 0 where
  pub value : A
  pub is : y ≡ given value
  pub made : b ≡ f value

-- a slot in which l is stored
pub slot_filled : {A B C : Type 0} (h : A → C) (old : C) {f : A → B} {y : Answer A} {b : B} {l : C} → Arrived f y b → ((v : A) → b ≡ f v → l ≡ h v)
    → l ≡ slot_after old h y
slot_filled h old r s = slot_given h old r.is (s r.value r.made)

module _ {A B : Type 0} (f : A → B) {x y : Answer A} {a : Answer B} (same : x ≡ y) (e : a ≡ map_answer f x) where
  pub told : {k : Refusal} → a ≡ declined k → y ≡ declined k
  unfolding map_answer
  told {k} m = go y (sym m ∙ e ∙ ap (map_answer f) same)
    where
      go : (y : Answer A) → declined k ≡ map_answer f y → y ≡ declined k
      go (declined j) e = cc
      go (given v) e = let z : ◌≡◌ {A = ℕ} 0 1 = cc in absurd (omega arith)

  pub arrived : {b : B} → a ≡ given b → Arrived f y b
  unfolding map_answer
  arrived {b} m = go y (sym m ∙ e ∙ ap (map_answer f) same)
    where
      go : (y : Answer A) → given b ≡ map_answer f y → Arrived f y b
      go (declined j) e = let z : ◌≡◌ {A = ℕ} 0 1 = cc in absurd (omega arith)
      go (given v) e = record { value = v; is = refl; made = cc }

  -- a status and one slot
  pub refused : {k : Refusal} → a ≡ declined k → {C : Type 0} (h : A → C) (old : C) {n : ℕ} → n ≡ number k
      → (n ≡ status y) × (old ≡ slot_after old h y)
  refused m h old q = (status_declined (told m) q, slot_declined h old (told m))

  pub found : {b : B} → a ≡ given b → {C : Type 0} (h : A → C) (old : C) {l : C} → ((v : A) → b ≡ f v → l ≡ h v)
      → (0 ≡ status y) × (l ≡ slot_after old h y)
  found m h old s = let r = arrived m in (status_given r.is, slot_filled h old r s)

-- the status and the slot of a call that was reported: its answer has what f makes of a record, and held of that are the record's
-- words
module _ {A B C : Type 0} (f : A → B) (held : B → C) (words : A → C) (h : (v : A) → held (f v) ≡ words v) {a : Answer B} {x y : Answer A} (e : a ≡ map_answer f x) (same : x ≡ y) where
  pub reported : {n : ℕ} (old : C) {l : C} → n ≡ status a → l ≡ slot_after old held a → (n ≡ status y) × (l ≡ slot_after old words y)
  unfolding map_answer status slot_after
  reported {n} old {l} p q = rw (← same) (go x e)
    where
      go : (x : Answer A) → a ≡ map_answer f x → (n ≡ status x) × (l ≡ slot_after old words x)
      go (declined k) d = (p ∙ ap status d, q ∙ ap (slot_after old held) d)
      go (given v) d = (p ∙ ap status d, q ∙ ap (slot_after old held) d ∙ h v)

-- the same of an answer that means another
module _ {A B C : Type 0} (f : A → B) (words : B → C) (r : Result A VmdRefusal) {y : Answer B} (e : answer f r ≡ y) where
  pub meant : {n : ℕ} (old : C) {l : C} → n ≡ status (answer_of r) → l ≡ slot_after old (λ a. words (f a)) (answer_of r) → (n ≡ status y) × (l ≡ slot_after old words y)
  unfolding status slot_after
  meant {n} old {l} p q = rw (← e) (go r p q)
    where
      go : (r : Result A VmdRefusal) → n ≡ status (answer_of r) → l ≡ slot_after old (λ a. words (f a)) (answer_of r) → (n ≡ status (answer f r)) × (l ≡ slot_after old words (answer f r))
      go (Ok a) p q = (p, q)
      go (Err k) p q = (p, q)

-- the model name of a join: j is the joined name that the callee gave, f the first file's
module _ (m n : List ℕ) {j : List ℕ} (e : j ≡ joined_model m n) where
  pub joined_none : length j ≡ 0 → 0 ∷ 0 ∷ 0 ∷ [] ≡ joined_words m n
  unfolding joined_words joined_model
  joined_none z = go m n (rw e at z)
    where
      go : (m n : List ℕ) → length (joined_model m n) ≡ 0 → 0 ∷ 0 ∷ 0 ∷ [] ≡ joined_words m n
      go [] [] z = refl
      go [] (b ∷ n) z = absurd (omega arith)
      go (a ∷ m) n z = absurd (omega arith)

  pub joined_second : {f : List ℕ} → 0 < length j → f ≡ m → length f ≡ 0 → 1 ∷ 30 ∷ length j ∷ [] ≡ joined_words m n
  unfolding joined_words joined_model
  joined_second h q z = rw e (go m n (rw e at h) (rw q at z))
    where
      go : (m n : List ℕ) → 0 < length (joined_model m n) → length m ≡ 0 → 1 ∷ 30 ∷ length (joined_model m n) ∷ [] ≡ joined_words m n
      go [] [] h z = absurd (omega arith)
      go [] (b ∷ n) h z = refl
      go (a ∷ m) n h z = absurd (omega arith)

  pub joined_first : {f : List ℕ} → f ≡ m → 0 < length f → 0 ∷ 30 ∷ length j ∷ [] ≡ joined_words m n
  unfolding joined_words joined_model
  joined_first q h = rw e (go m n (rw q at h))
    where
      go : (m n : List ℕ) → 0 < length m → 0 ∷ 30 ∷ length (joined_model m n) ∷ [] ≡ joined_words m n
      go [] n h = absurd (omega arith)
      go (a ∷ m) n h = refl
