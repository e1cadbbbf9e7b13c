-- Building from the parts of a take: "Building from these parts gives the file's export, provided every name, float and
-- self-shadow mode passes the builder."
use Rattle.std.specs.Prelude.{ℕ, zero, suc, ◌<◌, ◌^◌, ◌≡◌, refl, ◌↔◌, Bool, false, ◌&&◌, List, [], ◌∷◌, ◌++◌, map, length, get_or}
use Rattle.std.proofs.Math.Path.{ap, sym}
use Rattle.std.proofs.Common.{◌∙◌, arith, length-append}
use Rattle.std.proofs.Math.Bool.{true, and-eq-true_iff}
use borrow.Author.Tests.{le-leb, eq-eqb, lt-ltb}
use Rattle.std.proofs.lemmas.List.{length-map}
use Rattle.std.proofs.Math.Dec.{leb}
use Rattle.vmd_format.specs.Bytes.{before_zero}
use Rattle.vmd_laws.specs.BytesLaws.{Name}
use Rattle.vmd_format.specs.Refusal.{Refusal, number, name_not_good, not_finite}
use Rattle.vmd_format.specs.Answer.{given}
use Rattle.vmd_format.specs.Records.{Bone, Morph, Camera, Light, SelfShadow, Property}
use Rattle.vmd_laws.specs.SizedLaws.{camera_sized, light_sized, self_shadow_sized}
use Rattle.vmd_format.specs.Read.{Manner}
use Rattle.vmd_laws.specs.ReadLaws.{All, all_append}
use Rattle.vmd_format.specs.Take.{Take, write_take}
use Rattle.vmd_laws.specs.TakeLaws.{WellFormed}
use Rattle.vmd_format.specs.Join.{export_file}
use Rattle.vmd_laws.specs.SavingLaws.{Accepted, well_formed, export_is}
use Rattle.vmd_laws.specs.RefusalLaws.{Among, here, there}
use Rattle.vmd_format.specs.Names.{good}
use Rattle.vmd_format.specs.Parts.{names_of, take_of_parts, upto, Check, passes, fails, ◌next◌, need, each, no_bytes_over, is_got, whole_parts, name_check, finite, all_finite, camera_check, light_check, self_shadow_check, ik_check, property_check, columns_check, counts_check, bone_check, morph_check, parts_check, built, build}
use Rattle.vmd_laws.specs.PartsLaws.{all_map, each_mapped, next_passes, need_passes, each_passes, build_given}
use Rattle.vmd_keys.specs.Names.{distinct, bone_names_of, morph_names_of}
use Rattle.vmd_tables.specs.Tables.{name_table, name_indices}
use Rattle.vmd_count.specs.DistinctLaws.{all_then, all_distinct}
use Rattle.vmd_tables.proofs.TableMeaning.{distinct_all, table_names, table_right_ends, index_in_table}
use Rattle.vmd_take_parts.specs.Split.{translation, rotation, parts_of_take}
use Rattle.vmd_take_parts.specs.Passing.{Good, Finite, CameraFit, LightFit, SelfShadowFit, PropertyFit, BuilderPasses}
use Rattle.vmd_take_parts.proofs.Fitting.{and_says, le_says}
use Rattle.vmd_take_parts.specs.Columns.{all_front, all_back, getD_seam, numbered, write_length, part_there, records_whole}
use Rattle.vmd_take_parts.proofs.PartsMean.{translations_wide, rotations_wide, interpolations_wide, bone_count, morph_count, frames_back, parts_mean}

-- ---- what the builder asks of a take, as checks in the builder's order

unfoldable pub name_good : List ℕ → Check
name_good n = need (good n) name_not_good

unfoldable pub bone_finite : Bone → Check
bone_finite b = need (all_finite (translation b) && all_finite (rotation b)) not_finite

unfoldable pub morph_finite : Morph → Check
morph_finite m = need (finite m.weight) not_finite

-- model name, bone names and morph names in order of first appearance, cameras, lights, self-shadows, IK names, bones, morphs
unfoldable pub take_check : Take → Check
take_check t =
    name_good t.model
    next each name_good (distinct (bone_names_of t))
    next each name_good (distinct (morph_names_of t))
    next each camera_check t.cameras
    next each light_check t.lights
    next each self_shadow_check t.self_shadows
    next each property_check t.properties
    next each bone_finite t.bones
    next each morph_finite t.morphs

-- ---- checks

each_same : {A : Type 0} (f g : A → Check) (l : List A) → All (λ a. f a ≡ g a) l → each f l ≡ each g l
unfolding each
each_same f g [] h = refl
each_same f g (a ∷ l) h = let e = h.0 in let r = each_same f g l h.1 in λ i. e i next r i

-- a check of each number is a check of each value
each_numbered : {A : Type 0} (f : ℕ → Check) (g : A → Check) (rest : List A)
    → ((l : List A) (a : A) (m : List A) → rest ≡ l ++ (a ∷ m) → f (length l) ≡ g a) → each f (upto 0 (length rest)) ≡ each g rest
each_numbered f g rest h = sym (each_mapped (λ c. c) f (upto 0 (length rest))) ∙ ap (each (λ c. c)) (numbered f g rest h) ∙ each_mapped (λ c. c) g rest

need_true : (b : Bool) (k : Refusal) → b ≡ true → need b k ≡ passes
unfolding need
need_true b k e = rw e

both_pass : {c d : Check} → c ≡ passes → d ≡ passes → (c next d) ≡ passes
unfolding ◌next◌
both_pass e h = rw e h

each_all : {A : Type 0} (f : A → Check) (l : List A) → All (λ a. f a ≡ passes) l → each f l ≡ passes
unfolding each
each_all f [] h = refl
each_all f (a ∷ l) h = both_pass h.0 (each_all f l h.1)

and_both : (a b : Bool) → a ≡ true → b ≡ true → (a && b) ≡ true
and_both a b e h = (and-eq-true_iff a b).1 (e, h)

-- ---- names

name_whole : (s : List ℕ) → ((i : ℕ) → i < length s → 0 < get_or s i 0) → before_zero s ≡ s
unfolding before_zero
name_whole [] h = refl
name_whole (zero ∷ s) h = absurd (omega (arith, h 0 (omega arith)))
name_whole (suc b ∷ s) h = ap {B = List ℕ} (λ r. suc b ∷ r) (name_whole s (λ i k. h (suc i) (omega arith)))

-- a name that was read from a field of n bytes is never too long and has no zero byte
name_check_is : (n : ℕ) (s : List ℕ) → Name n s → name_check n s ≡ name_good s
unfolding name_check name_good ◌next◌ need
name_check_is n s h =
    rw (le-leb (length s) n h.short, eq-eqb (length (before_zero s)) (length s) (ap length (name_whole s h.none_zero)))

pub names_fit : {A : Type 0} {G : A → Type 0} (f : A → List ℕ) → ((a : A) → G a → Name 15 (f a)) → (l : List A) → All G l
    → All (Name 15) (map f l)
names_fit f g l h = all_map (Name 15) f (λ a p q. g a p) l h h

-- so the names of a table are only asked to be good
names_are : (l : List (List ℕ)) → All (Name 15) l → each (name_check 15) (names_of (name_table l)) ≡ each name_good (distinct l)
names_are l h =
    rw (table_names l)
    (each_same (name_check 15) name_good (distinct l)
    (all_then (Name 15) (λ s. name_check 15 s ≡ name_good s) (name_check_is 15) (distinct l) (all_distinct (Name 15) l h)))

-- ---- the parts of a well-formed take

index_there : {A : Type 0} (f : A → List ℕ) (l : List A) (a : A) (m : List A)
    → let names = map f (l ++ (a ∷ m)) in get_or (name_indices names) (length l) 0 < length (name_table names).ends
index_there f l a m =
    index_in_table (map f (l ++ (a ∷ m))) (length l) (omega (arith, length-map (l ++ (a ∷ m)) f, length-append l (a ∷ m)))

module _ (t : Take) (w : WellFormed t) where
  -- never 5
  parts_whole : whole_parts (parts_of_take t) ≡ passes
  unfolding whole_parts parts_of_take no_bytes_over is_got
  parts_whole =
      need_true _ _ (and_both _ _ (and_both _ _ (and_both _ _ (and_both _ _ (and_both _ _
      (table_right_ends (bone_names_of t))
      (table_right_ends (morph_names_of t)))
      (eq-eqb _ _ (records_whole camera_sized t.cameras)))
      (eq-eqb _ _ (records_whole light_sized t.lights)))
      (eq-eqb _ _ (records_whole self_shadow_sized t.self_shadows)))
      (ap is_got (frames_back t w)))

  -- never 10
  columns_agree : columns_check (parts_of_take t) ≡ passes
  unfolding columns_check parts_of_take
  columns_agree =
      let b = t.bones in
      rw (bone_count t, morph_count t)
      (need_true _ _ (and_both _ _ (and_both _ _ (and_both _ _ (and_both _ _ (and_both _ _
      (eq-eqb _ _ (length-map b (λ c. c.frame)))
      (eq-eqb _ _ (write_length translation 3 b (translations_wide b))))
      (eq-eqb _ _ (write_length rotation 4 b (rotations_wide b))))
      (eq-eqb _ _ (write_length (λ c. c.interpolation) 64 b (interpolations_wide b w.bones.1))))
      (eq-eqb _ _ (length-map t.morphs (λ c. c.frame))))
      (eq-eqb _ _ (length-map t.morphs (λ c. c.weight)))))

  -- never 11
  counts_fit : counts_check (parts_of_take t) ≡ passes
  unfolding counts_check
  counts_fit =
      rw (bone_count t, morph_count t, parts_mean t w)
      (need_true _ _ (and_both _ _ (and_both _ _ (and_both _ _ (and_both _ _ (and_both _ _
      (fits _ w.bones.0) (fits _ w.morphs.0)) (fits _ w.cameras.0)) (fits _ w.lights.0))
      (fits _ w.self_shadows.0)) (fits _ w.properties.0)))
    where
      fits : (n : ℕ) → n < 2 ^ 32 → leb n 4294967295 ≡ true
      fits n h = le-leb n 4294967295 (omega arith)

  -- never 6
  bone_names_are : each (name_check 15) (names_of (parts_of_take t).bone_names) ≡ each name_good (distinct (bone_names_of t))
  unfolding parts_of_take bone_names_of
  bone_names_are = names_are (bone_names_of t) (names_fit (λ b. b.name) (λ b h. h.0) t.bones w.bones.1)

  morph_names_are : each (name_check 15) (names_of (parts_of_take t).morph_names) ≡ each name_good (distinct (morph_names_of t))
  unfolding parts_of_take morph_names_of
  morph_names_are = names_are (morph_names_of t) (names_fit (λ b. b.name) (λ b h. h.0) t.morphs w.morphs.1)

  -- never 12
  bone_is : (l : List Bone) (b : Bone) (m : List Bone) → t.bones ≡ l ++ (b ∷ m)
      → bone_check (parts_of_take t) (length l) ≡ bone_finite b
  unfolding bone_check bone_finite parts_of_take bone_names_of ◌next◌ need
  bone_is l b m e =
      let s = l ++ (b ∷ m) in
      rw (
        e,
        lt-ltb _ _ (index_there (λ c. c.name) l b m),
        part_there translation 3 l b m (translations_wide s),
        part_there rotation 4 l b m (rotations_wide s),
      )

  morph_is : (l : List Morph) (f : Morph) (m : List Morph) → t.morphs ≡ l ++ (f ∷ m)
      → morph_check (parts_of_take t) (length l) ≡ morph_finite f
  unfolding morph_check morph_finite parts_of_take morph_names_of ◌next◌ need
  morph_is l f m e = rw (e, lt-ltb _ _ (index_there (λ c. c.name) l f m), getD_seam (λ c. c.weight) l f m 0)

  -- what the builder checks of the parts of a take, in its order: never 5, 6, 10, 11, 12
  pub parts_check_is : parts_check (parts_of_take t) ≡ take_check t
  unfolding parts_check take_check ◌next◌ parts_of_take take_of_parts
  parts_check_is =
      let p = parts_of_take t in
      let bones : each (bone_check p) (upto 0 (length p.bone_name_indices)) ≡ each bone_finite t.bones =
      rw (bone_count t) (each_numbered (bone_check p) bone_finite t.bones bone_is) in
      let morphs : each (morph_check p) (upto 0 (length p.morph_name_indices)) ≡ each morph_finite t.morphs =
      rw (morph_count t) (each_numbered (morph_check p) morph_finite t.morphs morph_is) in
      let q = parts_mean t w in
      λ i. parts_whole i
      next name_check_is 20 t.model w.model i
      next bone_names_are i
      next morph_names_are i
      next each camera_check (q i).cameras
      next each light_check (q i).lights
      next each self_shadow_check (q i).self_shadows
      next each property_check (q i).properties
      next columns_agree i
      next counts_fit i
      next bones i
      next morphs i

-- ---- which takes pass

-- a check passes just where a fact holds
abbrev Says : Check → Type 0 → Type 0
Says c P = (c ≡ passes) ↔ P

need_says : {P : Type 0} (b : Bool) (k : Refusal) → (b ≡ true) ↔ P → Says (need b k) P
need_says b k h = (λ e. h.0 (need_passes b k e), λ p. need_true b k (h.1 p))

next_says : {P Q : Type 0} (c d : Check) → Says c P → Says d Q → Says (c next d) (P × Q)
next_says c d h k = (λ e. let n = next_passes e in (h.0 n.0, k.0 n.1), λ p. both_pass (h.1 p.0) (k.1 p.1))

each_says : {A : Type 0} (f : A → Check) (P : A → Type 0) → ((a : A) → Says (f a) (P a)) → (l : List A) → Says (each f l) (All P l)
each_says f P h l = (
  λ e. all_then (λ a. f a ≡ passes) P (λ a. (h a).0) l (each_passes f l e),
  λ k. each_all f l (all_then P (λ a. f a ≡ passes) (λ a. (h a).1) l k),
)

-- floats, one test after another
abbrev finite_too : Bool → List ℕ → Bool
finite_too b [] = b
finite_too b (n ∷ l) = finite_too (b && finite n) l

finite_too_says : (b : Bool) (l : List ℕ) → (finite_too b l ≡ true) ↔ ((b ≡ true) × All Finite l)
finite_too_says b [] = (λ e. (e, tt), λ h. h.0)
finite_too_says b (n ∷ l) =
    let k = finite_too_says (b && finite n) l in
    let e = and-eq-true_iff b (finite n) in (
      λ r. let h = k.0 r in ((e.0 h.0).0, ((e.0 h.0).1, h.1)),
      λ h. k.1 (e.1 (h.0, h.1.0), h.1.1),
    )

all_finite_says : (l : List ℕ) → (all_finite l ≡ true) ↔ All Finite l
unfolding all_finite
all_finite_says [] = (λ e. tt, λ h. refl)
all_finite_says (n ∷ l) = and_says (finite n) (all_finite l) (λ e. e, λ e. e) (all_finite_says l)

name_says : (n : List ℕ) → Says (name_good n) (Good n)
unfolding name_good
name_says n = need_says (good n) name_not_good (λ e. e, λ e. e)

camera_says : (c : Camera) → Says (camera_check c) (CameraFit c)
unfolding camera_check
camera_says c = need_says _ _ (finite_too_says (finite c.distance) (c.px ∷ c.py ∷ c.pz ∷ c.rx ∷ c.ry ∷ c.rz ∷ []))

light_says : (l : Light) → Says (light_check l) (LightFit l)
unfolding light_check
light_says l = need_says _ _ (finite_too_says (finite l.red) (l.green ∷ l.blue ∷ l.dx ∷ l.dy ∷ l.dz ∷ []))

self_shadow_says : (s : SelfShadow) → Says (self_shadow_check s) (SelfShadowFit s)
unfolding self_shadow_check
self_shadow_says s =
    need_says _ _ (and_says (finite s.distance) (leb s.mode 2) (λ e. e, λ e. e) (le_says s.mode 2))

property_says : (p : Property) → Says (property_check p) (PropertyFit p)
unfolding property_check ik_check name_good
property_says p = each_says ik_check (λ k. Good k.name) (λ k. name_says k.name) p.ik_states

abbrev BoneFinite : Bone → Type 0
BoneFinite b = All Finite (b.tx ∷ b.ty ∷ b.tz ∷ b.rx ∷ b.ry ∷ b.rz ∷ b.rw ∷ [])

bone_says : (b : Bone) → Says (bone_finite b) (BoneFinite b)
unfolding bone_finite translation rotation
bone_says b =
    let l = translation b in
    let m = rotation b in
    let h = and_says (all_finite l) (all_finite m) (all_finite_says l) (all_finite_says m) in
    need_says _ _ (λ e. all_append Finite l m (h.0 e).0 (h.0 e).1, λ k. h.1 (all_front Finite l m k, all_back Finite l m k))

morph_says : (m : Morph) → Says (morph_finite m) (Finite m.weight)
unfolding morph_finite
morph_says m = need_says (finite m.weight) not_finite (λ e. e, λ e. e)

-- a fact of each name and one of each record, as one of each record
named_all : {A : Type 0} (f : A → List ℕ) (P : A → Type 0) (l : List A)
    → (All Good (distinct (map f l)) × All P l) ↔ All (λ a. Good (f a) × P a) l
named_all {A} f P l = (
  λ h. join l (distinct_all Good (map f l) h.0) h.1,
  λ h. (all_distinct Good (map f l) (all_map Good f (λ a p q. p.0) l h h), all_then (λ a. Good (f a) × P a) P (λ a p. p.1) l h),
)
  where
    join : (l : List A) → All Good (map f l) → All P l → All (λ a. Good (f a) × P a) l
    join [] h k = tt
    join (a ∷ l) h k = ((h.0, k.0), join l h.1 k.1)

take_says : (t : Take) → Says (take_check t) (BuilderPasses t)
unfolding take_check bone_names_of morph_names_of
take_says t =
    let h =
    next_says _ _ (name_says t.model)
    (next_says _ _ (each_says name_good Good name_says (distinct (bone_names_of t)))
    (next_says _ _ (each_says name_good Good name_says (distinct (morph_names_of t)))
    (next_says _ _ (each_says camera_check CameraFit camera_says t.cameras)
    (next_says _ _ (each_says light_check LightFit light_says t.lights)
    (next_says _ _ (each_says self_shadow_check SelfShadowFit self_shadow_says t.self_shadows)
    (next_says _ _ (each_says property_check PropertyFit property_says t.properties)
    (next_says _ _ (each_says bone_finite BoneFinite bone_says t.bones)
    (each_says morph_finite (λ m. Finite m.weight) morph_says t.morphs)))))))) in
    let b = named_all (λ c. c.name) BoneFinite t.bones in
    let m = named_all (λ c. c.name) (λ c. Finite c.weight) t.morphs in (
      λ e.
          let k = h.0 e in
          record {
            model = k.0;
            bones = b.0 (k.1.0, k.1.1.1.1.1.1.1.0);
            morphs = m.0 (k.1.1.0, k.1.1.1.1.1.1.1.1);
            cameras = k.1.1.1.0;
            lights = k.1.1.1.1.0;
            self_shadows = k.1.1.1.1.1.0;
            properties = k.1.1.1.1.1.1.0;
          },
      λ p.
          let bs = b.1 p.bones in
          let ms = m.1 p.morphs in
          h.1 (p.model, (bs.0, (ms.0, (p.cameras, (p.lights, (p.self_shadows, (p.properties, (bs.1, ms.1)))))))),
    )

-- ---- and with which numbers others are turned down

abbrev OfTake : Check → Type 0
OfTake passes = Unit {0}
OfTake (fails k) = Among (number k) (7 ∷ 8 ∷ 9 ∷ [])

next_of : (c d : Check) → OfTake c → OfTake d → OfTake (c next d)
unfolding ◌next◌
next_of passes d h k = k
next_of (fails j) d h k = h

need_of : (b : Bool) (k : Refusal) → Among (number k) (7 ∷ 8 ∷ 9 ∷ []) → OfTake (need b k)
unfolding need
need_of true k h = tt
need_of false k h = h

each_of : {A : Type 0} (f : A → Check) (l : List A) → ((a : A) → OfTake (f a)) → OfTake (each f l)
unfolding each
each_of f [] h = tt
each_of f (a ∷ l) h = next_of (f a) (each f l) (h a) (each_of f l h)

take_check_of : (t : Take) → OfTake (take_check t)
unfolding take_check name_good camera_check light_check self_shadow_check property_check ik_check bone_finite morph_finite
take_check_of t = search (next_of, need_of, each_of, here, there) depth 20

-- ---- the laws

built_just_when : (c : Check) (t : Take) (u : List ℕ) → built c t ≡ given u → c ≡ passes
unfolding built
built_just_when passes t u e = refl
built_just_when (fails k) t u e = let z : ◌≡◌ {A = ℕ} 0 1 = cc in absurd (omega arith)

module _ (m : Manner) {s : List ℕ} {t : Take} (a : Accepted m s t) where
  -- the checks let the parts of an accepted file through just where every name, float and self-shadow mode passes
  pub parts_pass : (parts_check (parts_of_take t) ≡ passes) ↔ BuilderPasses t
  parts_pass = rw (parts_check_is t (well_formed m a)) (take_says t)

  -- others have a number 7, 8 or 9, and so never 5, 6, 10, 11 or 12
  pub parts_fail : (k : Refusal) → parts_check (parts_of_take t) ≡ fails k → Among (number k) (7 ∷ 8 ∷ 9 ∷ [])
  parts_fail k e = rw (sym (parts_check_is t (well_formed m a)) ∙ e) at (take_check_of t)

  -- "Building from these parts gives the file's export, provided every name, float and self-shadow mode passes the builder",
  -- and only then
  pub rebuilt : (build (parts_of_take t) ≡ export_file m s) ↔ BuilderPasses t
  unfolding build
  rebuilt = (
    λ e. parts_pass.0 (built_just_when _ _ (write_take t) (e ∙ export_is m a)),
    λ p.
        build_given (parts_of_take t) (parts_pass.1 p) ∙ ap (λ u. given (write_take u)) (parts_mean t (well_formed m a))
        ∙ sym (export_is m a),
  )
