-- Laws of what the checks let through, and of the size of what is built. Assumes nothing.
use Prim.Native.Nat.{ℕ, ◌+◌, ◌*◌, ◌/◌, ◌%◌, ◌≤◌, ◌<◌}
use mathlib.Core.Path.{◌≡◌, ap, sym, ◌∙◌}
use mathlib.Core.Bool.{true}
use mathlib.Core.List.{List, map}
use native.Mathlib.Nat.{div-add-mod', mul_comm, add-zero}
use native.Mathlib.Omega.{arith}
use lib.ListN.{length, length-map}
use Rattle.vmd_format.specs.Refusal.{Refusal, parts_not_whole}
use Rattle.vmd_format.specs.Answer.{Answer, declined, map_answer, fitted, within}
use Rattle.vmd_format.specs.Take.{write_take}
use Rattle.vmd_laws.specs.Lengths.{export_length}
use Rattle.vmd_format.specs.Opening.{ik_total}
use Rattle.vmd_format.specs.Parts.{Parts, names_of, frames, properties_of, upto, bone_at, morph_at, take_of_parts, passes, fails, each, is_got, name_check, bone_check, morph_check, parts_check, build}
use Rattle.vmd_laws.specs.PartsLaws.{upto_length, next_passes, need_passes, Counts, counts_pass, Columns, columns_pass, build_given, build_refused}
use Rattle.vmd_laws.specs.SizedLaws.{camera_sized, light_sized, self_shadow_sized}
use Rattle.vmd_output.proofs.Saves.{refused_answer, given_answer}
use Rattle.vmd_laws.specs.WalkLaws.{frames_total}
use Rattle.vmd_check_records.proofs.Properties.{properties_framed}
use Rattle.vmd_checks.proofs.Whole.{Whole, whole_are, records_length, whole_same}

-- ---- the size

properties_total : (s : List ℕ) → is_got (frames s) ≡ true → 9 * length (properties_of s) + 21 * ik_total (properties_of s) ≡ length s
properties_total s e =
    let f = properties_framed s e in
    omega (arith, f.ends, frames_total s (length (properties_of s)) 0, ap ik_total f.are)

-- what the checks let through
pub record Checked (p : Parts) : Type 0 where
  pub whole : Whole p.bone_names p.morph_names p.cameras p.lights p.self_shadows p.properties
  pub bone_names : each (name_check 15) (names_of p.bone_names) ≡ passes
  pub morph_names : each (name_check 15) (names_of p.morph_names) ≡ passes
  pub columns : Columns p
  pub counts : Counts (take_of_parts p)
  pub bones : each (bone_check p) (upto 0 (length p.bone_name_indices)) ≡ passes
  pub morphs : each (morph_check p) (upto 0 (length p.morph_name_indices)) ≡ passes

pub checked : (p : Parts) → parts_check p ≡ passes → Checked p
unfolding parts_check
checked p e =
    let a = next_passes e in
    let b = next_passes a.1 in
    let c = next_passes b.1 in
    let d = next_passes c.1 in
    let f = next_passes d.1 in
    let g = next_passes f.1 in
    let h = next_passes g.1 in
    let i = next_passes h.1 in
    let j = next_passes i.1 in
    let k = next_passes j.1 in
    let l = next_passes k.1 in
    record {
      whole = whole_are _ _ _ _ _ _ (need_passes _ parts_not_whole (whole_same p ∙ a.0));
      bone_names = c.0;
      morph_names = d.0;
      columns = columns_pass p j.0;
      counts = counts_pass p k.0;
      bones = l.0;
      morphs = l.1;
    }

pub column_length : {A : Type 0} (f : ℕ → A) (n : ℕ) → length (map f (upto 0 n)) ≡ n
column_length f n = length-map (upto 0 n) f ∙ upto_length 0 n

-- so many bones and morphs, and the record bytes as they are
abbrev pub size_of_parts : Parts → ℕ
size_of_parts p =
    74 + 111 * length p.bone_name_indices + 23 * length p.morph_name_indices + length p.cameras + length p.lights + length p.self_shadows
    + length p.properties

-- records that fill their bytes
pub filled : (w n m : ℕ) → 0 < w → m ≡ n / w → n % w ≡ 0 → w * m ≡ n
filled w n m h e z = ap (λ x. w * x) e ∙ mul_comm w (n / w) ∙ sym (add-zero (n / w * w)) ∙ ap (λ x. n / w * w + x) (sym z) ∙ div-add-mod' n w

module _ (p : Parts) (c : Checked p) where
  cameras_fill : 61 * length (take_of_parts p).cameras ≡ length p.cameras
  unfolding take_of_parts
  cameras_fill = filled 61 (length p.cameras) _ (omega arith) (records_length camera_sized p.cameras) c.whole.cameras

  lights_fill : 28 * length (take_of_parts p).lights ≡ length p.lights
  unfolding take_of_parts
  lights_fill = filled 28 (length p.lights) _ (omega arith) (records_length light_sized p.lights) c.whole.lights

  self_shadows_fill : 9 * length (take_of_parts p).self_shadows ≡ length p.self_shadows
  unfolding take_of_parts
  self_shadows_fill = filled 9 (length p.self_shadows) _ (omega arith) (records_length self_shadow_sized p.self_shadows) c.whole.self_shadows

  properties_fill : 9 * length (take_of_parts p).properties + 21 * ik_total (take_of_parts p).properties ≡ length p.properties
  unfolding take_of_parts
  properties_fill = properties_total p.properties c.whole.properties

  bones_count : length (take_of_parts p).bones ≡ length p.bone_name_indices
  unfolding take_of_parts
  bones_count = column_length (bone_at p) (length p.bone_name_indices)

  morphs_count : length (take_of_parts p).morphs ≡ length p.morph_name_indices
  unfolding take_of_parts
  morphs_count = column_length (morph_at p) (length p.morph_name_indices)

  pub size_is : length (write_take (take_of_parts p)) ≡ size_of_parts p
  size_is =
      export_length (take_of_parts p)
      ∙ omega (arith, cameras_fill, lights_fill, self_shadows_fill, properties_fill, bones_count, morphs_count)

  -- all but the properties is small
  pub small : (length p.bone_name_indices ≤ 4294967295) × (length p.morph_name_indices ≤ 4294967295) × (length p.cameras ≤ 261993004995)
      × (length p.lights ≤ 120259084260) × (length p.self_shadows ≤ 38654705655)
  small = (
    omega (arith, c.counts.bones, bones_count),
    omega (arith, c.counts.morphs, morphs_count),
    omega (arith, c.counts.cameras, cameras_fill),
    omega (arith, c.counts.lights, lights_fill),
    omega (arith, c.counts.self_shadows, self_shadows_fill),
  )

-- ---- what building answers

pub refused_built : (p : Parts) (n : ℕ) {k : Refusal} → parts_check p ≡ fails k → declined k ≡ map_answer length (fitted n (build p))
refused_built p n {k} e = refused_answer n (build p) k (build_refused p k e)

pub sized_built : (p : Parts) (n : ℕ) {x : Answer ℕ} → parts_check p ≡ passes → x ≡ within n (size_of_parts p) → x ≡ map_answer length (fitted n (build p))
sized_built p n e h = h ∙ given_answer (write_take (take_of_parts p)) (size_is p (checked p e)) n ∙ rw (build_given p e)
