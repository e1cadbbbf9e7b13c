-- Records one after another: how many bytes they are, the first and the others, and those that stay as they are. Assumes nothing.
use Prim.Native.Nat.{ℕ, zero, suc, ◌+◌, ◌-◌, ◌*◌, ◌≤◌, ◌<◌}
use Rattle.std.specs.Prelude.{◌≡◌, length, take}
use Rattle.std.proofs.Math.Path.{ap}
use Rattle.std.proofs.Common.{ap₂, ◌∙◌, zero-mul, length-drop, drop-drop, take-add}
use mathlib.Core.List.{List, [], ◌∷◌, ◌++◌}
use native.Mathlib.Omega.{arith}
use Rattle.std.proofs.Math.ListN.{drop, length-append}
use Rattle.vmd_laws.specs.BytesLaws.{Bytes, bytes_drop}
use Rattle.vmd_format.specs.Layout.{Layout}
use Rattle.vmd_laws.specs.LayoutLaws.{Lawful}
use Rattle.vmd_format.specs.Read.{table, write_all}
use Rattle.vmd_format.specs.Records.{bone, morph, camera, light, self_shadow, ik_state}
use Rattle.vmd_laws.specs.RecordLaws.{bone_lawful, morph_lawful, camera_lawful, light_lawful, self_shadow_lawful, ik_state_lawful}
use Rattle.vmd_laws.specs.Rewriting.{Rewrites, bone_rewrites, morph_rewrites, camera_rewrites, light_rewrites, self_shadow_rewrites, ik_state_rewrites}

-- a record is w bytes in a file, and as many when it is written
pub record Sized {A : Type 0} (K : Layout A) (w : ℕ) : Type 0 where
  pub size : K.size ≡ w
  pub wide : (a : A) → length (K.encode a) ≡ w

sized : {A : Type 0} {K : Layout A} {Good : A → Type 0} {w : ℕ} {f : List ℕ → List ℕ} → Lawful K Good → Rewrites K w f → Sized K w
sized k r = record { size = r.size; wide = λ a. k.wide a ∙ r.size }

pub bone_sized : Sized bone 111
bone_sized = sized bone_lawful bone_rewrites

pub morph_sized : Sized morph 23
morph_sized = sized morph_lawful morph_rewrites

pub camera_sized : Sized camera 61
camera_sized = sized camera_lawful camera_rewrites

pub light_sized : Sized light 28
light_sized = sized light_lawful light_rewrites

pub self_shadow_sized : Sized self_shadow 9
self_shadow_sized = sized self_shadow_lawful self_shadow_rewrites

pub ik_state_sized : Sized ik_state 21
ik_state_sized = sized ik_state_lawful ik_state_rewrites

module _ {A : Type 0} {K : Layout A} {w : ℕ} where
  pub section_length : Sized K w → (n : ℕ) (s : List ℕ) → length (write_all K.encode (table K n s)) ≡ n * w
  unfolding table write_all
  section_length k zero s = omega arith
  section_length k (suc n) s = simp length-append (omega (arith, k.wide (K.decode s), section_length k n (drop K.size s)))

  -- the first of n records from a place on, and the others
  pub table_first : Sized K w → (n p : ℕ) (s : List ℕ) → 0 < n → table K n (drop p s) ≡ K.decode (drop p s) ∷ table K (n - 1) (drop (p + w) s)
  unfolding table
  table_first k n p s h =
      let d : n ≡ suc (n - 1) = omega arith in
      let e : drop K.size (drop p s) ≡ drop (p + w) s = rw (k.size, drop-drop) in
      ap (λ i. table K i (drop p s)) d ∙ ap {B = List A} (λ t. K.decode (drop p s) ∷ table K (n - 1) t) e

pub table_none : {A : Type 0} (K : Layout A) (n : ℕ) (s : List ℕ) → n ≡ 0 → table K n s ≡ []
unfolding table
table_none K n s e = rw e

-- records that stay as they are
pub section_stays : {A : Type 0} {K : Layout A} {w : ℕ} → Rewrites K w (take w) → (n : ℕ) (s : List ℕ) → Bytes s → n * w ≤ length s
    → write_all K.encode (table K n s) ≡ take (n * w) s
unfolding table write_all
section_stays r zero s b h = rw zero-mul
section_stays {K = K} {w} r (suc n) s b h =
    let e : suc n * w ≡ w + n * w = omega arith in
    let rest : write_all K.encode (table K n (drop K.size s)) ≡ take (n * w) (drop w s) =
    ap (λ i. write_all K.encode (table K n (drop i s))) r.size ∙ section_stays r n (drop w s) (bytes_drop w s b) (rw length-drop (omega arith)) in
    ap₂ ◌++◌ (r.is s b (omega arith)) rest ∙ rw (e, take-add w (n * w) s)
