-- Laws of all checks together, and of whole parts. Assumes nothing.
use Prim.Native.Nat.{ℕ, ◌*◌, ◌/◌, ◌%◌}
use mathlib.Core.Path.{◌≡◌, refl, ap, ◌∙◌}
use mathlib.Core.Bool.{true, ◌&&◌, and_assoc, and-eq-true_iff}
use mathlib.Core.List.{List}
use borrow.Author.Tests.{eqb-true}
use lib.ListN.{length, length-map}
use lib.Dec.{eqb}
use lib.Ieee.{Float, binary32, to_bits}
use Rattle.vmd_format.specs.Refusal.{parts_not_whole, columns_disagree}
use Rattle.vmd_format.specs.Layout.{Layout}
use Rattle.vmd_laws.specs.PlacesLaws.{table_length}
use Rattle.vmd_format.specs.Parts.{NameTable, Parts, records_of, frames, properties_of, upto, take_of_parts, Check, passes, ◌next◌, need, each, table_right, no_bytes_over, is_got, whole_parts, columns_check, counts_check, bone_check, morph_check, parts_check}
use Rattle.vmd_laws.specs.PartsLaws.{need_passes, next_assoc}
use Rattle.vmd_laws.specs.SizedLaws.{Sized, camera_sized, light_sized, self_shadow_sized}
use Rattle.vmd_check_columns.specs.Meaning.{bits}
use Rattle.vmd_check_columns.specs.Stages.{bone_columns, morph_columns, columns_right, counts_right, bone_right, morph_right}
use Rattle.vmd_checks.specs.Stages.{all_whole, names_right, records_right, values_right, all_columns}
use Rattle.vmd_check_records.proofs.Records.{over_none}

-- ---- the columns

pub columns_bits : (a b : ℕ) (x y : List Float) (c d e : ℕ) (z : List Float)
    → columns_right a b (length x) (length y) c d e (length z) ≡ columns_right a b (length (bits x)) (length (bits y)) c d e (length (bits z))
columns_bits a b x y c d e z = rw (length-map x (to_bits binary32), length-map y (to_bits binary32), length-map z (to_bits binary32))

bones_hold : (n f t r i : ℕ) → bone_columns n f t r i ≡ true → (t ≡ 3 * n) × (r ≡ 4 * n)
unfolding bone_columns
bones_hold n f t r i e =
    let a = (and-eq-true_iff (eqb f n && eqb t (3 * n) && eqb r (4 * n)) (eqb i (64 * n))).0 e in
    let b = (and-eq-true_iff (eqb f n && eqb t (3 * n)) (eqb r (4 * n))).0 a.0 in
    let c = (and-eq-true_iff (eqb f n) (eqb t (3 * n))).0 b.0 in
    (eqb-true t (3 * n) c.1, eqb-true r (4 * n) b.1)

morphs_hold : (m g w : ℕ) → morph_columns m g w ≡ true → w ≡ m
unfolding morph_columns
morphs_hold m g w e = eqb-true w m ((and-eq-true_iff (eqb g m) (eqb w m)).0 e).1

pub columns_hold : (n f t r i m g w : ℕ) → columns_right n f t r i m g w ≡ passes → (t ≡ 3 * n) × (r ≡ 4 * n) × (w ≡ m)
unfolding columns_right
columns_hold n f t r i m g w e =
    let a = (and-eq-true_iff (bone_columns n f t r i) (morph_columns m g w)).0 (need_passes _ columns_disagree e) in
    let b = bones_hold n f t r i a.0 in
    (b.0, b.1, morphs_hold m g w a.1)

-- ---- all checks in their order

pub whole_same : (p : Parts)
    → need (all_whole p.bone_names p.morph_names p.cameras p.lights p.self_shadows p.properties) parts_not_whole ≡ whole_parts p
unfolding all_whole whole_parts
whole_same p = simp and_assoc

columns_same : (p : Parts)
    → columns_right (length p.bone_name_indices) (length p.bone_frames) (length p.bone_translations) (length p.bone_rotations) (length p.bone_interpolations)
    (length p.morph_name_indices) (length p.morph_frames) (length p.morph_weights) ≡ columns_check p
unfolding columns_right bone_columns morph_columns columns_check
columns_same p = simp and_assoc

pub records_length : {A : Type 0} {K : Layout A} {w : ℕ} → Sized K w → (s : List ℕ) → length (records_of K s) ≡ length s / w
unfolding records_of
records_length {K = K} k s = table_length K (length s / K.size) s ∙ ap (λ i. length s / i) k.size

counts_same : (p : Parts)
    → counts_right (length p.bone_name_indices) (length p.morph_name_indices) (length p.cameras / 61) (length p.lights / 28) (length p.self_shadows / 9)
    (length (properties_of p.properties))
    ≡ counts_check p
unfolding counts_right counts_check take_of_parts
counts_same p = rw (← records_length camera_sized p.cameras, ← records_length light_sized p.lights, ← records_length self_shadow_sized p.self_shadows)

values_same : (p : Parts)
    → values_right (length p.bone_names.ends) p.bone_name_indices p.bone_translations p.bone_rotations (length p.morph_names.ends) p.morph_name_indices p.morph_weights
    ≡ (each (bone_check p) (upto 0 (length p.bone_name_indices)) next each (morph_check p) (upto 0 (length p.morph_name_indices)))
unfolding values_right bone_right morph_right bone_check morph_check
values_same p = refl

-- the chain of checks that code goes through
unfoldable pub chain : Parts → Check
chain p =
    need (all_whole p.bone_names p.morph_names p.cameras p.lights p.self_shadows p.properties) parts_not_whole
    next names_right p.model p.bone_names p.morph_names
    next records_right p.cameras p.lights p.self_shadows p.properties
    next all_columns (length p.cameras / 61) (length p.lights / 28) (length p.self_shadows / 9) (length (properties_of p.properties))
    (length p.bone_names.ends) (length p.morph_names.ends)
    p.bone_name_indices p.bone_frames p.bone_translations p.bone_rotations p.bone_interpolations p.morph_name_indices p.morph_frames p.morph_weights

pub chained : (p : Parts) {x : Check} → x ≡ chain p → x ≡ parts_check p
unfolding chain names_right records_right all_columns parts_check
chained p h = h ∙ rw (whole_same p, columns_same p, counts_same p, values_same p) (simp next_assoc)

-- what whole parts are, as code goes
pub whole_is : (t u : NameTable) (c l s p : List ℕ)
    → all_whole t u c l s p ≡ (table_right t && table_right u && eqb (length c % 61) 0 && eqb (length l % 28) 0 && eqb (length s % 9) 0 && is_got (frames p))
unfolding all_whole no_bytes_over
whole_is t u c l s p = rw (camera_sized.size, light_sized.size, self_shadow_sized.size) (simp and_assoc)

-- what whole parts are
pub record Whole (t u : NameTable) (c l s p : List ℕ) : Type 0 where
  pub bone_table : table_right t ≡ true
  pub morph_table : table_right u ≡ true
  pub cameras : length c % 61 ≡ 0
  pub lights : length l % 28 ≡ 0
  pub self_shadows : length s % 9 ≡ 0
  pub properties : is_got (frames p) ≡ true

pub whole_are : (t u : NameTable) (c l s p : List ℕ) → all_whole t u c l s p ≡ true → Whole t u c l s p
unfolding all_whole
whole_are t u c l s p e =
    let a = (and-eq-true_iff _ _).0 e in
    let b = (and-eq-true_iff _ _).0 a.1 in
    let d = (and-eq-true_iff _ _).0 b.1 in
    let f = (and-eq-true_iff _ _).0 d.1 in
    let g = (and-eq-true_iff _ _).0 f.1 in
    record {
      bone_table = a.0;
      morph_table = b.0;
      cameras = over_none camera_sized c d.0;
      lights = over_none light_sized l f.0;
      self_shadows = over_none self_shadow_sized s g.0;
      properties = g.1;
    }
