-- Room in the buffers, and what a write at the front leaves. Assumes nothing.
use Prim.Native.Nat.{ℕ, ◌+◌, ◌*◌, ◌-◌, ◌/◌, ◌≤◌}
use mathlib.Core.Path.{◌≡◌, refl, sym, ◌∙◌}
use mathlib.Core.Bool.{Bool, true, false, ◌&&◌, and-eq-true_iff}
use mathlib.Core.List.{List}
use native.Mathlib.Omega.{arith}
use borrow.Author.Tests.{leb-true, leb-false, le-leb, lt-leb}
use lib.ListN.{length}
use lib.Dec.{leb}
use Rattle.vmd_format.specs.Layout.{Layout}
use Rattle.vmd_format.specs.Read.{table, write_all}
use Rattle.vmd_format.specs.Take.{property}
use Rattle.vmd_format.specs.Opening.{Scan}
use Rattle.vmd_laws.specs.PlacesLaws.{frames_in}
use Rattle.vmd_laws.specs.ScanLaws.{frames_length}
use Rattle.vmd_laws.specs.ExportLaws.{Scanned}
use Rattle.vmd_format.specs.Parts.{NameTable}
use Rattle.vmd_laws.specs.SizedLaws.{Sized, section_length}
use Rattle.vmd_bytes.specs.Slices.{splice}
use Rattle.vmd_bytes.specs.Written.{Room, Wrote}
use Rattle.vmd_take_parts.specs.Split.{table_within, table_fits, over}
use Rattle.vmd_take_parts.proofs.Fitting.{TableFits, table_fits_says}
use Rattle.vmd_take_parts.proofs.Given.{frames_size}
use Rattle.vmd_split.specs.Stages.{table_room, bone_room, morph_room, record_room}

-- ---- tests

-- so many IK states fit what the heads leave
pub states_fit : (heads states bytes : ℕ) → heads ≤ bytes → leb states ((bytes - heads) / 21) ≡ leb (heads + 21 * states) bytes
states_fit h k n w = go (leb k ((n - h) / 21)) refl
  where
    go : (b : Bool) → leb k ((n - h) / 21) ≡ b → b ≡ leb (h + 21 * k) n
    go true e = let l = leb-true k ((n - h) / 21) e in sym (le-leb (h + 21 * k) n (omega arith))
    go false e = let l = leb-false k ((n - h) / 21) e in sym (lt-leb (h + 21 * k) n (omega arith))

-- two tests that hold together
pub both : {a b : Bool} → (a && b) ≡ true → (a ≡ true) × (b ≡ true)
both e = (and-eq-true_iff _ _).0 e

-- ---- bones, morphs and their tables

pub record BoneRoom (n indices frames translations rotations interpolations : ℕ) : Type 0 where
  pub indices_fit : n ≤ indices
  pub frames_fit : n ≤ frames
  pub translations_fit : 3 * n ≤ translations
  pub rotations_fit : 4 * n ≤ rotations
  pub interpolations_fit : 64 * n ≤ interpolations

pub bone_rooms : (n i f t r c : ℕ) → bone_room n i f t r c ≡ true → BoneRoom n i f t r c
unfolding bone_room
bone_rooms n i f t r c e =
    let p = both e in
    let q = both p.0 in
    let u = both q.0 in
    let v = both u.0 in
    record {
      indices_fit = leb-true n i v.0;
      frames_fit = leb-true n f v.1;
      translations_fit = leb-true (3 * n) t u.1;
      rotations_fit = leb-true (4 * n) r q.1;
      interpolations_fit = leb-true (64 * n) c p.1;
    }

pub record MorphRoom (n indices frames weights : ℕ) : Type 0 where
  pub indices_fit : n ≤ indices
  pub frames_fit : n ≤ frames
  pub weights_fit : n ≤ weights

pub morph_rooms : (n i f w : ℕ) → morph_room n i f w ≡ true → MorphRoom n i f w
unfolding morph_room
morph_rooms n i f w e =
    let p = both e in
    let q = both p.0 in
    record { indices_fit = leb-true n i q.0; frames_fit = leb-true n f q.1; weights_fit = leb-true n w p.1 }

pub table_rooms : (t : NameTable) (bytes ends : List ℕ) → table_room t (length bytes) (length ends) ≡ true → TableFits t (record { bytes = bytes; ends = ends })
unfolding table_room table_fits table_within
table_rooms t bytes ends e = (table_fits_says t (record { bytes = bytes; ends = ends })).0 e

-- ---- records

pub record RecordRoom (x : Scan) (cameras lights self_shadows properties : ℕ) : Type 0 where
  pub cameras_fit : 61 * x.cameras.count ≤ cameras
  pub lights_fit : 28 * x.lights.count ≤ lights
  pub self_shadows_fit : 9 * x.self_shadows.count ≤ self_shadows
  pub properties_fit : 9 * x.properties.count + 21 * x.ik_states ≤ properties

pub record_rooms : {x : Scan} {c l s p : ℕ} → record_room x c l s p ≡ true → RecordRoom x c l s p
unfolding record_room
record_rooms e =
    let d = both e in
    let f = both d.0 in
    let g = both f.0 in
    record {
      cameras_fit = leb-true _ _ g.0;
      lights_fit = leb-true _ _ g.1;
      self_shadows_fit = leb-true _ _ f.1;
      properties_fit = leb-true _ _ d.1;
    }

-- there is room for n records of a size
pub rows_room : {A : Type 0} {K : Layout A} {w : ℕ} → Sized K w → (n : ℕ) (s : List ℕ) {out : List ℕ} → w * n ≤ length out
    → Room out 0 (write_all K.encode (table K n s))
rows_room {w = w} k n s h = record { room = omega (arith, section_length k n s) }

-- and for the property frames of a scan
pub frames_room : {s : List ℕ} {x : Scan} → Scanned s x → {out : List ℕ} → 9 * x.properties.count + 21 * x.ik_states ≤ length out
    → Room out 0 (write_all property.write (frames_in s x.properties.count x.properties.place))
frames_room {s} {x} c h =
    let l = frames_in s x.properties.count x.properties.place in
    record { room = omega (arith, frames_size l, frames_length s x.properties.count x.properties.place, c.ik_states) }

-- ---- what is written at the front

pub front : (l v : List ℕ) → splice l 0 v ≡ over v l
unfolding splice
front l v = let e : 0 + length v ≡ length v = omega arith in rw e

pub wrote_over : {l v out : List ℕ} {p : ℕ} → Wrote l 0 v out p → out ≡ over v l
wrote_over {l} {v} w = w.holds ∙ front l v
