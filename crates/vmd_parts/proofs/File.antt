-- Laws of the whole file: its sections, its two halves, and what building saves. Assumes nothing.
use Prim.Native.Nat.{ℕ, ◌+◌, ◌*◌, ◌/◌, ◌≤◌, ◌<◌}
use mathlib.Core.Path.{◌≡◌, sym, ◌∙◌}
use mathlib.Core.Bool.{true}
use mathlib.Core.List.{List, ◌++◌, append_assoc, map}
use native.Mathlib.Nat.{div-add-mod'}
use native.Mathlib.Omega.{arith}
use lib.ListN.{length}
use Rattle.vmd_format.specs.Refusal.{Refusal}
use Rattle.vmd_format.specs.Answer.{declined, given, within}
use Rattle.vmd_format.specs.Bytes.{u32_bytes}
use Rattle.vmd_format.specs.Records.{Bone, Morph, bone, morph}
use Rattle.vmd_format.specs.Read.{fixed, write_all, write_counted}
use Rattle.vmd_format.specs.Take.{newer, property, write_header, write_sections, write_edition, write_take}
use Rattle.vmd_format.specs.Opening.{Extent}
use Rattle.vmd_laws.specs.Places.{Reaches}
use Rattle.vmd_laws.specs.PlacesLaws.{table_length}
use Rattle.vmd_format.specs.Parts.{NameTable, Parts, records_of, is_got, frames, properties_of, upto, bone_at, morph_at, take_of_parts, passes, fails, parts_check, build, bone_check, morph_check}
use Rattle.vmd_laws.specs.PartsLaws.{build_given, build_refused}
use Rattle.vmd_records.specs.declared.VmdKind.{VmdKind}
use Rattle.vmd_records.specs.declared.VmdKind.TheVariants as kind
use Rattle.vmd_records.specs.Kinds.{layout, size_of}
use Rattle.vmd_laws.specs.SizedLaws.{camera_sized, light_sized, self_shadow_sized}
use Rattle.vmd_records.specs.KindLaws.{kind_sized}
use Rattle.vmd_bytes.specs.Written.{Room, Wrote, Rest}
use Rattle.vmd_bytes.proofs.Writes.{rest_as}
use Rattle.vmd_output.specs.Sections.{rows, frame_rows}
use Rattle.vmd_output.proofs.Saves.{Saves, same_saved, saves_nothing, saves_over, saves_room, saves_wrote}
use Rattle.vmd_check_columns.specs.Stages.{bone_right, morph_right}
use Rattle.vmd_checks.proofs.Whole.{records_length}
use Rattle.vmd_check_records.proofs.Properties.{properties_framed}
use Rattle.vmd_write_columns.specs.Stages.{BonesFit, bone_of, MorphsFit, morph_of}
use Rattle.vmd_parts.specs.Stages.{front_bytes, RecordsFit, back_bytes}
use Rattle.vmd_parts.proofs.Size.{Checked, checked, column_length, size_of_parts, size_is}

-- ---- records from columns

abbrev bones : NameTable → List ℕ → List ℕ → List ℕ → List ℕ → List ℕ → List Bone
bones t i fs tr ro ip = map (bone_of t i fs tr ro ip) (upto 0 (length i))

abbrev morphs : NameTable → List ℕ → List ℕ → List ℕ → List Morph
morphs t i fs ws = map (morph_of t i fs ws) (upto 0 (length i))

-- the header, a count, the bones, a count and the morphs are left
pub front_rest : {t u : NameTable} {i fs tr ro ip j gs ws l : List ℕ} (b : BonesFit t i fs tr ro ip) (c : MorphsFit u j gs ws) (m : List ℕ) {n k : ℕ}
    → n ≡ length i → k ≡ length j → Room l 0 (front_bytes m (bones t i fs tr ro ip) (morphs u j gs ws))
    → Rest l 0 (front_bytes m (bones t i fs tr ro ip) (morphs u j gs ws)) l 0
    (write_header newer m ++ (u32_bytes n ++ (write_all bone.encode (bones t i fs tr ro ip) ++ (u32_bytes k ++ write_all morph.encode (morphs u j gs ws)))))
unfolding front_bytes write_counted fixed
front_rest {t} {u} {i} {fs} {tr} {ro} {ip} {j} {gs} {ws} b c m e f h =
    rest_as (rw (e, f, column_length (bone_of t i fs tr ro ip) (length i), column_length (morph_of u j gs ws) (length j)) (simp append_assoc)) h

-- ---- records that fill their bytes

pub size_positive : (k : VmdKind) → 0 < size_of k
size_positive kind.Bone = omega arith
size_positive kind.Morph = omega arith
size_positive kind.Camera = omega arith
size_positive kind.Light = omega arith
size_positive kind.SelfShadow = omega arith

module _ (k : VmdKind) (s : List ℕ) {z : ℕ} (e : z ≡ size_of k) where
  abbrev filling : Extent
  filling = record { count = length s / z; place = 0 }

  pub filling_lies : 0 + length s / z * size_of k ≤ length s
  filling_lies = rw (← e) (omega (arith, div-add-mod' (length s) z))

  filling_is : write_counted (fixed (layout k)) (records_of (layout k) s) ≡ u32_bytes (length s / z) ++ rows (layout k) s filling
  unfolding write_counted fixed records_of
  filling_is = let d = (kind_sized k).size ∙ sym e in rw (table_length (layout k) (length s / (layout k).size) s, d)

  pub filling_rest : {l : List ℕ} {to : ℕ} → Room l to (write_counted (fixed (layout k)) (records_of (layout k) s))
      → Rest l to (write_counted (fixed (layout k)) (records_of (layout k) s)) l to (u32_bytes (length s / z) ++ rows (layout k) s filling)
  filling_rest h = rest_as filling_is h

module _ (s : List ℕ) {n : ℕ} (g : is_got (frames s) ≡ true) (e : n ≡ length (properties_of s)) where
  pub frames_reach : Reaches s n 0
  frames_reach = rw e (properties_framed s g).reaches

  frames_are : write_counted property (properties_of s) ≡ u32_bytes n ++ frame_rows s (record { count = n; place = 0 })
  unfolding write_counted
  frames_are = rw (e, ← (properties_framed s g).are)

  pub frames_rest : {l : List ℕ} {to : ℕ} → Room l to (write_counted property (properties_of s))
      → Rest l to (write_counted property (properties_of s)) l to (u32_bytes n ++ frame_rows s (record { count = n; place = 0 }))
  frames_rest h = rest_as frames_are h

-- ---- what the checks let through, for the writers

module _ {p : Parts} (c : Checked p) where
  pub bones_fit : BonesFit p.bone_names p.bone_name_indices p.bone_frames p.bone_translations p.bone_rotations p.bone_interpolations
  unfolding bone_right bone_check
  bones_fit = record {
    table = c.whole.bone_table;
    named = c.bone_names;
    framed = c.columns.bone_frames;
    translated = c.columns.bone_translations;
    rotated = c.columns.bone_rotations;
    interpolated = c.columns.bone_interpolations;
    right = c.bones;
  }

  pub morphs_fit : MorphsFit p.morph_names p.morph_name_indices p.morph_frames p.morph_weights
  unfolding morph_right morph_check
  morphs_fit = record { table = c.whole.morph_table; named = c.morph_names; framed = c.columns.morph_frames; weighed = c.columns.morph_weights; right = c.morphs }

  pub records_fit : RecordsFit p.cameras p.lights p.self_shadows p.properties
  unfolding take_of_parts
  records_fit = record {
    properties = c.whole.properties;
    camera_count = omega (arith, c.counts.cameras, records_length camera_sized p.cameras);
    light_count = omega (arith, c.counts.lights, records_length light_sized p.lights);
    self_shadow_count = omega (arith, c.counts.self_shadows, records_length self_shadow_sized p.self_shadows);
    property_count = omega (arith, c.counts.properties);
  }

-- ---- what building saves

-- the bones and the morphs of the parts
abbrev bones_in : Parts → List Bone
bones_in p = bones p.bone_names p.bone_name_indices p.bone_frames p.bone_translations p.bone_rotations p.bone_interpolations

abbrev morphs_in : Parts → List Morph
morphs_in p = morphs p.morph_names p.morph_name_indices p.morph_frames p.morph_weights

halves : (p : Parts) → write_take (take_of_parts p) ≡ front_bytes p.model (bones_in p) (morphs_in p) ++ back_bytes p.cameras p.lights p.self_shadows p.properties
unfolding front_bytes back_bytes write_take write_edition write_sections take_of_parts bone_at morph_at bone_of morph_of
halves p = simp append_assoc

pub built_refused : (p : Parts) (out : List ℕ) {k : Refusal} → parts_check p ≡ fails k → Saves (build p) out (declined k) out
built_refused p out {k} e = saves_nothing (build p) k out (build_refused p k e)

module _ (p : Parts) {out : List ℕ} (e : parts_check p ≡ passes) where
  pub built_over : {k : Refusal} → declined k ≡ within (length out) (size_of_parts p) → Saves (build p) out (declined k) out
  built_over {k} h = same_saved out (sym (build_given p e)) (saves_over (write_take (take_of_parts p)) (size_is p (checked p e)) k h)

  module _ (n : ℕ) (h : given n ≡ within (length out) (size_of_parts p)) where
    built_room : Room out 0 (write_take (take_of_parts p))
    built_room = saves_room (write_take (take_of_parts p)) (size_is p (checked p e)) n h

    pub built_rest : Rest out 0 (write_take (take_of_parts p)) out 0
        (front_bytes p.model (bones_in p) (morphs_in p) ++ back_bytes p.cameras p.lights p.self_shadows p.properties)
    built_rest = rest_as (halves p) built_room

    pub built_wrote : {o : List ℕ} {r : ℕ} → Wrote out 0 (write_take (take_of_parts p)) o r → Saves (build p) out (given r) o
    built_wrote w = same_saved out (sym (build_given p e)) (saves_wrote built_room w)
