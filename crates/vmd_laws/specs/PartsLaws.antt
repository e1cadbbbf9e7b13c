-- Building from parts: what the checks let through is a well-formed take, so a built file reads back as the take that the
-- parts mean; and what the checks turn down has a number from 5 to 12.
use Prim.Native.Nat.{ℕ, zero, suc, ◌+◌, ◌*◌, ◌-◌, ◌/◌, ◌≤◌, ◌<◌, ◌^◌}
use Rattle.std.specs.Prelude.{◌≡◌, Bool, true, false, ◌&&◌, length, get_or, drop, leb, ltb}
use Rattle.std.proofs.Math.Path.{refl, ap}
use Rattle.std.proofs.Common.{subst, arith, div-mul-le_self, leb-true, ltb-true, eqb-true, take_all}
use Rattle.std.proofs.Math.Bool.{and-eq-true_iff}
use mathlib.Core.List.{List, [], ◌∷◌, map}
use Rattle.std.proofs.Math.ListN.{length-drop}
use Rattle.std.proofs.lemmas.List.{length-map}
use Rattle.vmd_format.specs.Bytes.{before_zero}
use Rattle.vmd_laws.specs.BytesLaws.{Bytes, bytes_drop, bytes_take, Name, name_fair, raw_fair}
use Rattle.vmd_format.specs.Layout.{Layout}
use Rattle.vmd_laws.specs.LayoutLaws.{Lawful}
use Rattle.vmd_format.specs.Refusal.{Refusal, number}
use Rattle.vmd_format.specs.Answer.{declined, given}
use Rattle.vmd_format.specs.Read.{Step, refused, got, Codec, Manner, table}
use Rattle.vmd_laws.specs.ReadLaws.{Always, always_bind, All, CodecLaws}
use Rattle.vmd_format.specs.Records.{Property}
use Rattle.vmd_laws.specs.RecordLaws.{GoodBone, GoodMorph, camera_lawful, light_lawful, self_shadow_lawful}
use Rattle.vmd_format.specs.Take.{Take, write_take}
use Rattle.vmd_laws.specs.TakeLaws.{GoodProperty, property_lawful, WellFormed}
use Rattle.vmd_laws.specs.SavingLaws.{Accepted, written_accepted}
use Rattle.vmd_format.specs.Parts.{NameTable, Parts, names_from, names_of, records_of, at_end, until_end, frames, frames_or_none, properties_of, upto, bone_at, morph_at, take_of_parts, Check, passes, fails, ◌next◌, need, each, whole_parts, name_check, camera_check, light_check, self_shadow_check, ik_check, property_check, columns_check, counts_check, bone_check, morph_check, parts_check, built, build}

-- ---- what the types of the parts give

-- each element is a u32, or a float's 32 bits
abbrev pub Words : List ℕ → Type 0
Words l = (i : ℕ) → get_or l i 0 < 2 ^ 32

pub record TableInRange (t : NameTable) : Type 0 where
  pub bytes : Bytes t.bytes
  pub ends : Words t.ends

pub record InRange (p : Parts) : Type 0 where
  pub model : Bytes p.model
  pub bone_names : TableInRange p.bone_names
  pub morph_names : TableInRange p.morph_names
  pub cameras : Bytes p.cameras
  pub lights : Bytes p.lights
  pub self_shadows : Bytes p.self_shadows
  pub properties : Bytes p.properties
  pub bone_name_indices : Words p.bone_name_indices
  pub bone_frames : Words p.bone_frames
  pub bone_translations : Words p.bone_translations
  pub bone_rotations : Words p.bone_rotations
  pub bone_interpolations : Bytes p.bone_interpolations
  pub morph_name_indices : Words p.morph_name_indices
  pub morph_frames : Words p.morph_frames
  pub morph_weights : Words p.morph_weights

-- ---- a fact of each element

module _ {A : Type 0} where
  pub all_at : (P : A → Type 0) (l : List A) (i : ℕ) (d : A) → i < length l → All P l → P (get_or l i d)
  all_at P [] i d h k = absurd (omega arith)
  all_at P (a ∷ l) zero d h k = k.0
  all_at P (a ∷ l) (suc i) d h k = all_at P l i d (omega arith) k.1

  -- two facts of each element give a fact of each image
  pub all_map : {B : Type 0} {P Q : A → Type 0} (R : B → Type 0) (f : A → B) → ((a : A) → P a → Q a → R (f a))
      → (l : List A) → All P l → All Q l → All R (map f l)
  all_map R f h [] k m = tt
  all_map R f h (a ∷ l) k m = (h a k.0 m.0, all_map R f h l k.1 m.1)

pub upto_length : (i n : ℕ) → length (upto i n) ≡ n
unfolding upto
upto_length i zero = refl
upto_length i (suc n) = ap suc (upto_length (suc i) n)

pub upto_below : (m i n : ℕ) → i + n ≤ m → All (λ j. j < m) (upto i n)
unfolding upto
upto_below m i zero h = tt
upto_below m i (suc n) h = (omega arith, upto_below m (suc i) n (omega arith))

-- ---- one check after another

pub next_assoc : (a b c : Check) → ((a next b) next c) ≡ (a next b next c)
unfolding ◌next◌
next_assoc passes b c = refl
next_assoc (fails k) b c = refl

pub each_mapped : {A B : Type 0} (f : B → Check) (g : A → B) (l : List A) → each f (map g l) ≡ each (λ a. f (g a)) l
unfolding each
each_mapped f g [] = refl
each_mapped f g (a ∷ l) = ap (λ c. f (g a) next c) (each_mapped f g l)

-- ---- what a check that passes gives

pub next_passes : {c d : Check} → (c next d) ≡ passes → (c ≡ passes) × (d ≡ passes)
unfolding ◌next◌
next_passes {c = passes} e = (refl, e)
next_passes {c = fails k} e = let z : ◌≡◌ {A = ℕ} 0 1 = cc in absurd (omega arith)

pub need_passes : (b : Bool) (k : Refusal) → need b k ≡ passes → b ≡ true
unfolding need
need_passes true k e = refl
need_passes false k e = let z : ◌≡◌ {A = ℕ} 0 1 = cc in absurd (omega arith)

pub each_passes : {A : Type 0} (f : A → Check) (l : List A) → each f l ≡ passes → All (λ a. f a ≡ passes) l
unfolding each
each_passes f [] e = tt
each_passes f (a ∷ l) e = let p = next_passes e in (p.0, each_passes f l p.1)

-- "bone or morph column lengths disagree": they agree
pub record Columns (p : Parts) : Type 0 where
  pub bone_frames : length p.bone_frames ≡ length p.bone_name_indices
  pub bone_translations : length p.bone_translations ≡ 3 * length p.bone_name_indices
  pub bone_rotations : length p.bone_rotations ≡ 4 * length p.bone_name_indices
  pub bone_interpolations : length p.bone_interpolations ≡ 64 * length p.bone_name_indices
  pub morph_frames : length p.morph_frames ≡ length p.morph_name_indices
  pub morph_weights : length p.morph_weights ≡ length p.morph_name_indices

pub columns_pass : (p : Parts) → columns_check p ≡ passes → Columns p
unfolding columns_check
columns_pass p e =
    let w = (and-eq-true_iff _ _).0 (need_passes _ _ e) in
    let f = (and-eq-true_iff _ _).0 w.0 in
    let i = (and-eq-true_iff _ _).0 f.0 in
    let r = (and-eq-true_iff _ _).0 i.0 in
    let t = (and-eq-true_iff _ _).0 r.0 in
    record {
      bone_frames = eqb-true _ _ t.0;
      bone_translations = eqb-true _ _ t.1;
      bone_rotations = eqb-true _ _ r.1;
      bone_interpolations = eqb-true _ _ i.1;
      morph_frames = eqb-true _ _ f.1;
      morph_weights = eqb-true _ _ w.1;
    }

-- "a section count above 4,294,967,295": none is
pub record Counts (t : Take) : Type 0 where
  pub bones : length t.bones < 2 ^ 32
  pub morphs : length t.morphs < 2 ^ 32
  pub cameras : length t.cameras < 2 ^ 32
  pub lights : length t.lights < 2 ^ 32
  pub self_shadows : length t.self_shadows < 2 ^ 32
  pub properties : length t.properties < 2 ^ 32

pub counts_pass : (p : Parts) → counts_check p ≡ passes → Counts (take_of_parts p)
unfolding counts_check take_of_parts
counts_pass p e =
    let t = (and-eq-true_iff _ _).0 (need_passes _ _ e) in
    let s = (and-eq-true_iff _ _).0 t.0 in
    let l = (and-eq-true_iff _ _).0 s.0 in
    let c = (and-eq-true_iff _ _).0 l.0 in
    let m = (and-eq-true_iff _ _).0 c.0 in
    record {
      bones = column (bone_at p) (length p.bone_name_indices) m.0;
      morphs = column (morph_at p) (length p.morph_name_indices) m.1;
      cameras = fits _ c.1;
      lights = fits _ l.1;
      self_shadows = fits _ s.1;
      properties = fits _ t.1;
    }
  where
    fits : (n : ℕ) → leb n 4294967295 ≡ true → n < 2 ^ 32
    fits n h = omega (arith, leb-true n 4294967295 h)

    column : {A : Type 0} (f : ℕ → A) (n : ℕ) → leb n 4294967295 ≡ true → length (map f (upto 0 n)) < 2 ^ 32
    column f n h = omega (arith, fits n h, length-map (upto 0 n) f, upto_length 0 n)

-- ---- names

-- no zero byte
pub before_zero_all : (s : List ℕ) → length (before_zero s) ≡ length s → before_zero s ≡ s
unfolding before_zero
before_zero_all [] h = refl
before_zero_all (zero ∷ s) h = absurd (omega arith)
before_zero_all (suc b ∷ s) h = ap {B = List ℕ} (λ r. suc b ∷ r) (before_zero_all s (omega arith))

pub name_passes : (n : ℕ) (s : List ℕ) → Bytes s → name_check n s ≡ passes → Name n s
unfolding name_check
name_passes n s h e =
    let t = (and-eq-true_iff _ _).0 (need_passes _ _ (next_passes e).0) in
    let fits : length s ≤ n = leb-true _ _ t.0 in
    rw (take_all n s fits, before_zero_all s (eqb-true _ _ t.1)) at (name_fair n s h)

module _ (s : List ℕ) where
  names_length : (at : ℕ) (l : List ℕ) → length (names_from at l s) ≡ length l
  unfolding names_from
  names_length at [] = refl
  names_length at (e ∷ l) = ap suc (names_length e l)

  names_bytes : (at : ℕ) (l : List ℕ) → Bytes s → All Bytes (names_from at l s)
  unfolding names_from
  names_bytes at [] h = tt
  names_bytes at (e ∷ l) h = (bytes_take (e - at) (drop at s) (bytes_drop at s h), names_bytes e l h)

-- the name at an index below the table's length
pub table_name : (n : ℕ) (t : NameTable) (i : ℕ) → Bytes t.bytes → each (name_check n) (names_of t) ≡ passes → ltb i (length t.ends) ≡ true
    → Name n (get_or (names_of t) i [])
unfolding names_of
table_name n t i h e l =
    let m : i < length (names_of t) = omega (arith, ltb-true i (length t.ends) l, names_length t.bytes 0 t.ends) in
    name_passes n (get_or (names_of t) i []) (all_at Bytes (names_of t) i [] m (names_bytes t.bytes 0 t.ends h))
    (all_at (λ s. name_check n s ≡ passes) (names_of t) i [] m (each_passes (name_check n) (names_of t) e))

-- ---- records back to back

module _ {A : Type 0} {K : Layout A} {Good : A → Type 0} (k : Lawful K Good) where
  pub table_fair : (n : ℕ) (s : List ℕ) → Bytes s → n * K.size ≤ length s → All Good (table K n s)
  unfolding table
  table_fair zero s h l = tt
  table_fair (suc n) s h l =
      (k.fair s h (omega arith), table_fair n (drop K.size s) (bytes_drop K.size s h) (rw length-drop (omega arith)))

  pub records_fair : (s : List ℕ) → Bytes s → All Good (records_of K s)
  unfolding records_of
  records_fair s h = table_fair (length s / K.size) s h (div-mul-le_self (length s) K.size)

pub until_fair : {A : Type 0} {C : Codec A} {Good : A → Type 0} → CodecLaws C Good
    → (n : ℕ) (s : List ℕ) → Bytes s → Always (λ l t. All Good l) (until_end C.read n s)
unfolding until_end at_end
until_fair c zero [] h = tt
until_fair c zero (b ∷ s) h = tt
until_fair c (suc n) [] h = tt
until_fair {C = C} {Good} c (suc n) (b ∷ s) h =
    always_bind (λ a t. Good a × Bytes t) (λ l t. All Good l) (C.read (b ∷ s)) _ (c.fair (b ∷ s) h) λ a t g.
    always_bind (λ l u. All Good l) (λ l u. All Good l) (until_end C.read n t) _ (until_fair c n t g.1) λ l u k.
    (g.0, k)

pub properties_fair : (s : List ℕ) → Bytes s → All GoodProperty (properties_of s)
unfolding properties_of frames frames_or_none
properties_fair s h = go (frames s) (until_fair property_lawful (length s) s h)
  where
    go : (x : Step (List Property)) → Always (λ l t. All GoodProperty l) x → All GoodProperty (frames_or_none x)
    go (refused k) a = tt
    go (got l t) a = a

-- ---- the take that the parts mean

-- one record for each number below a column's length
column_good : {A : Type 0} (Good : A → Type 0) (f : ℕ → A) (c : ℕ → Check) (n : ℕ) → ((i : ℕ) → i < n → c i ≡ passes → Good (f i))
    → each c (upto 0 n) ≡ passes → All Good (map f (upto 0 n))
column_good Good f c n g e = all_map Good f g (upto 0 n) (upto_below n 0 n (omega arith)) (each_passes c (upto 0 n) e)

module _ {p : Parts} (r : InRange p) where
  bone_good : each (name_check 15) (names_of p.bone_names) ≡ passes → Columns p
      → (i : ℕ) → i < length p.bone_name_indices → bone_check p i ≡ passes → GoodBone (bone_at p i)
  unfolding bone_check bone_at
  bone_good names c i l e =
      let n = table_name 15 p.bone_names (get_or p.bone_name_indices i 0) r.bone_names.bytes names (need_passes _ _ (next_passes e).0) in
      let t = r.bone_translations in
      let q = r.bone_rotations in
      let s = p.bone_interpolations in
      let b = raw_fair 64 (drop (64 * i) s) (bytes_drop (64 * i) s r.bone_interpolations) (rw length-drop (omega (arith, c.bone_interpolations))) in
      (n, (r.bone_frames i, (t (3 * i), (t (3 * i + 1), (t (3 * i + 2), (q (4 * i), (q (4 * i + 1), (q (4 * i + 2), (q (4 * i + 3), b)))))))))

  morph_good : each (name_check 15) (names_of p.morph_names) ≡ passes
      → (i : ℕ) → i < length p.morph_name_indices → morph_check p i ≡ passes → GoodMorph (morph_at p i)
  unfolding morph_check morph_at
  morph_good names i l e = (
    table_name 15 p.morph_names (get_or p.morph_name_indices i 0) r.morph_names.bytes names (need_passes _ _ (next_passes e).0),
    (r.morph_frames i, r.morph_weights i),
  )

  pub built_well_formed : parts_check p ≡ passes → WellFormed (take_of_parts p)
  unfolding parts_check take_of_parts
  built_well_formed e =
      let model = next_passes (next_passes e).1 in
      let bone_names = next_passes model.1 in
      let morph_names = next_passes bone_names.1 in
      let columns = next_passes (next_passes (next_passes (next_passes (next_passes morph_names.1).1).1).1).1 in
      let counts = next_passes columns.1 in
      let bones = next_passes counts.1 in
      let n = counts_pass p counts.0 in
      record {
        model = name_passes 20 p.model r.model model.0;
        bones = (n.bones, column_good GoodBone (bone_at p) (bone_check p) _ (bone_good bone_names.0 (columns_pass p columns.0)) bones.0);
        morphs = (n.morphs, column_good GoodMorph (morph_at p) (morph_check p) _ (morph_good morph_names.0) bones.1);
        cameras = (n.cameras, records_fair camera_lawful p.cameras r.cameras);
        lights = (n.lights, records_fair light_lawful p.lights r.lights);
        self_shadows = (n.self_shadows, records_fair self_shadow_lawful p.self_shadows r.self_shadows);
        properties = (n.properties, properties_fair p.properties r.properties);
      }

-- ---- what building answers

pub build_given : (p : Parts) → parts_check p ≡ passes → build p ≡ given (write_take (take_of_parts p))
unfolding build built
build_given p e = rw e

pub build_refused : (p : Parts) (k : Refusal) → parts_check p ≡ fails k → build p ≡ declined k
unfolding build built
build_refused p k e = rw e

-- a built file is accepted, and reads back as the take that the parts mean
pub build_accepted : (m : Manner) {p : Parts} → InRange p → (s : List ℕ) → build p ≡ given s → Accepted m s (take_of_parts p)
unfolding build built
build_accepted m {p} r s e = go (parts_check p) refl e
  where
    go : (c : Check) → parts_check p ≡ c → built c (take_of_parts p) ≡ given s → Accepted m s (take_of_parts p)
    go passes q e =
        let w : write_take (take_of_parts p) ≡ s = cc in
        subst (λ x. Accepted m x (take_of_parts p)) w (written_accepted m (take_of_parts p) (built_well_formed r q))
    go (fails k) q e = let z : ◌≡◌ {A = ℕ} 0 1 = cc in absurd (omega arith)

-- ---- the numbers of what is turned down

-- a check that fails only with a refusal of building
abbrev pub OfBuilding : Check → Type 0
OfBuilding passes = Unit {0}
OfBuilding (fails k) = (5 ≤ number k) × (number k ≤ 12)

next_of : (c d : Check) → OfBuilding c → OfBuilding d → OfBuilding (c next d)
unfolding ◌next◌
next_of passes d h k = k
next_of (fails j) d h k = h

need_of : (b : Bool) (k : Refusal) → (leb 5 (number k) && leb (number k) 12) ≡ true → OfBuilding (need b k)
unfolding need
need_of true k h = tt
need_of false k h = let t = (and-eq-true_iff _ _).0 h in (leb-true _ _ t.0, leb-true _ _ t.1)

each_of : {A : Type 0} (f : A → Check) (l : List A) → ((a : A) → OfBuilding (f a)) → OfBuilding (each f l)
unfolding each
each_of f [] h = tt
each_of f (a ∷ l) h = next_of (f a) (each f l) (h a) (each_of f l h)

pub parts_check_of : (p : Parts) → OfBuilding (parts_check p)
unfolding parts_check whole_parts name_check camera_check light_check self_shadow_check property_check ik_check columns_check counts_check bone_check morph_check
parts_check_of p = search (next_of, need_of, each_of) depth 20

-- building never gives 1 to 4
pub build_number : (p : Parts) (k : Refusal) → build p ≡ declined k → (5 ≤ number k) × (number k ≤ 12)
unfolding build built
build_number p k e = go (parts_check p) (parts_check_of p) e
  where
    go : (c : Check) → OfBuilding c → built c (take_of_parts p) ≡ declined k → OfBuilding (fails k)
    go passes h e = let z : ◌≡◌ {A = ℕ} 0 1 = cc in absurd (omega arith)
    go (fails j) h e = let q : j ≡ k = cc in rw q at h
