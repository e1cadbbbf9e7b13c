-- What a call for parts gives that is not refused, and what it leaves in its buffers, in every manner of reading.
use Rattle.std.specs.Prelude.{ℕ, ◌+◌, ◌*◌, ◌≤◌, ◌↔◌, Bool, true, false, ◌&&◌, List, length, take, drop}
use Rattle.std.proofs.Math.Path.{◌≡◌, refl, ap}
use Rattle.std.proofs.Common.{sym, ◌∙◌, arith}
use Rattle.std.proofs.lemmas.List.{length-map}
use Rattle.std.proofs.Math.Seq.{take-append_seam, drop-append_seam}
use Rattle.vmd_format.specs.Bytes.{u32_bytes}
use Rattle.vmd_format.specs.Refusal.{parts_do_not_fit}
use Rattle.vmd_format.specs.Answer.{Answer, declined, given, and_then, map_answer, unless}
use Rattle.vmd_format.specs.Records.{Property}
use Rattle.vmd_laws.specs.SizedLaws.{camera_sized, light_sized, self_shadow_sized}
use Rattle.vmd_format.specs.Read.{Manner, write_all, write_counted}
use Rattle.vmd_format.specs.Take.{Take, property, read_take}
use Rattle.vmd_laws.specs.TakeLaws.{WellFormed}
use Rattle.vmd_format.specs.Opening.{ik_total}
use Rattle.vmd_laws.specs.Lengths.{property_length}
use Rattle.vmd_format.specs.Parts.{Parts}
use Rattle.vmd_keys.specs.Names.{distinct, bone_names_of, morph_names_of}
use Rattle.vmd_tables.specs.Tables.{name_table}
use Rattle.vmd_tables.proofs.TableMeaning.{table_count}
use Rattle.vmd_take_parts.specs.Split.{translation, rotation, parts_of_take, table_within, parts_fit, split, TableSizes, table_sizes, split_answer, parts_left, split_sizes}
use Rattle.vmd_take_parts.proofs.Fitting.{and_says, table_within_says, PartsFit, parts_fit_says}
use Rattle.vmd_take_parts.specs.Columns.{write_length, records_length}
use Rattle.vmd_take_parts.proofs.PartsMean.{translations_wide, rotations_wide, interpolations_wide, bone_count, morph_count}
use Rattle.vmd_take_parts.proofs.SplitRefusals.{split_then_fits}

-- ---- which parts

if_fits : {A : Type 0} (b : Bool) (a c : A) → unless b parts_do_not_fit (given a) ≡ given c → (b ≡ true) × (a ≡ c)
unfolding unless
if_fits true a c e = (refl, cc)
if_fits false a c e = let z : ◌≡◌ {A = ℕ} 0 1 = cc in absurd (omega arith)

if_not : {A : Type 0} (b : Bool) (a : A) → unless b parts_do_not_fit (given a) ≡ declined parts_do_not_fit → (b ≡ true) → ⊥
unfolding unless
if_not true a e h = let z : ◌≡◌ {A = ℕ} 0 1 = cc in omega arith
if_not false a e h = let z : ◌≡◌ {A = ℕ} 0 1 = cc in omega arith

not_if : {A : Type 0} (b : Bool) (a : A) → ((b ≡ true) → ⊥) → unless b parts_do_not_fit (given a) ≡ declined parts_do_not_fit
unfolding unless
not_if true a h = absurd (h refl)
not_if false a h = refl

module _ (m : Manner) (s : List ℕ) (t : Take) (e : read_take m s ≡ given t) (lent : Parts) where
  by_fit : split m s lent ≡ unless (parts_fit (parts_of_take t) lent) parts_do_not_fit (given (parts_of_take t))
  by_fit = split_then_fits m s lent t e

  -- of a file that is read, the parts of its take, just where they fit the buffers
  pub split_gives : (p : Parts) → (split m s lent ≡ given p) ↔ ((p ≡ parts_of_take t) × PartsFit (parts_of_take t) lent)
  unfolding unless
  split_gives p = (
    λ g.
        let h = if_fits _ _ _ (sym by_fit ∙ g) in
        (sym h.1, (parts_fit_says (parts_of_take t) lent).0 h.0),
    λ h. by_fit ∙ rw ((parts_fit_says (parts_of_take t) lent).1 h.1, h.0),
  )

  -- and 14 just where they do not
  pub split_declines : (split m s lent ≡ declined parts_do_not_fit) ↔ (PartsFit (parts_of_take t) lent → ⊥)
  split_declines = (
    λ g h. if_not _ _ (sym by_fit ∙ g) ((parts_fit_says (parts_of_take t) lent).1 h),
    λ h. by_fit ∙ not_if _ _ (λ b. h ((parts_fit_says (parts_of_take t) lent).0 b)),
  )

-- ---- the numbers answered

module _ (m : Manner) (s : List ℕ) (t : Take) (e : read_take m s ≡ given t) where
  -- the size call gives the four numbers just where no table passes its limit
  pub sizes_give : (z : TableSizes) → (split_sizes m s ≡ given z) ↔ ((z ≡ table_sizes (parts_of_take t))
      × ((length (parts_of_take t).bone_names.bytes ≤ 4294967295) × (length (parts_of_take t).morph_names.bytes ≤ 4294967295)))
  unfolding split_sizes and_then unless parts_of_take
  sizes_give z =
      let b = name_table (bone_names_of t) in
      let f = name_table (morph_names_of t) in
      let h = and_says (table_within b) (table_within f) (table_within_says b) (table_within_says f) in
      let z₀ = table_sizes (parts_of_take t) in
      let q : split_sizes m s ≡ unless (table_within b && table_within f) parts_do_not_fit (given z₀) = rw e in (
        λ g. let k = if_fits _ _ _ (sym q ∙ g) in (sym k.1, h.0 k.0),
        λ k. q ∙ rw (h.1 k.1, k.0),
      )

  -- a call that is not refused answers what the size call answers
  pub sizes_alike : (lent : Parts) (z : TableSizes) → split_answer m s lent ≡ given z → split_sizes m s ≡ given z
  unfolding split_answer map_answer
  sizes_alike lent z g = go (split m s lent) refl g
    where
      go : (x : Answer Parts) → split m s lent ≡ x → map_answer table_sizes x ≡ given z → split_sizes m s ≡ given z
      go (declined k) q g = let n : ◌≡◌ {A = ℕ} 0 1 = cc in absurd (omega arith)
      go (given p) q g =
          let h = (split_gives m s t e lent p).0 q in
          let r : table_sizes p ≡ z = cc in
          (sizes_give z).1 (sym r ∙ ap table_sizes h.0, (h.1.bone_names.within, h.1.morph_names.within))

-- how many elements each part has: so many the buffers have to hold, and so many are to be taken from them
pub record Lengths (t : Take) (p : Parts) : Type 0 where
  pub bone_names : length p.bone_names.ends ≡ length (distinct (bone_names_of t))
  pub morph_names : length p.morph_names.ends ≡ length (distinct (morph_names_of t))
  pub cameras : length p.cameras ≡ 61 * length t.cameras
  pub lights : length p.lights ≡ 28 * length t.lights
  pub self_shadows : length p.self_shadows ≡ 9 * length t.self_shadows
  pub properties : length p.properties ≡ 9 * length t.properties + 21 * ik_total t.properties
  pub bone_name_indices : length p.bone_name_indices ≡ length t.bones
  pub bone_frames : length p.bone_frames ≡ length t.bones
  pub bone_translations : length p.bone_translations ≡ 3 * length t.bones
  pub bone_rotations : length p.bone_rotations ≡ 4 * length t.bones
  pub bone_interpolations : length p.bone_interpolations ≡ 64 * length t.bones
  pub morph_name_indices : length p.morph_name_indices ≡ length t.morphs
  pub morph_frames : length p.morph_frames ≡ length t.morphs
  pub morph_weights : length p.morph_weights ≡ length t.morphs

pub frames_size : (l : List Property) → length (write_all property.write l) ≡ 9 * length l + 21 * ik_total l
unfolding write_counted u32_bytes
frames_size l = omega (arith, property_length l)

pub parts_lengths : (t : Take) → WellFormed t → Lengths t (parts_of_take t)
unfolding parts_of_take
parts_lengths t w = record {
  bone_names = table_count (bone_names_of t);
  morph_names = table_count (morph_names_of t);
  cameras = records_length camera_sized t.cameras;
  lights = records_length light_sized t.lights;
  self_shadows = records_length self_shadow_sized t.self_shadows;
  properties = frames_size t.properties;
  bone_name_indices = bone_count t;
  bone_frames = length-map t.bones (λ b. b.frame);
  bone_translations = write_length translation 3 t.bones (translations_wide t.bones);
  bone_rotations = write_length rotation 4 t.bones (rotations_wide t.bones);
  bone_interpolations = write_length (λ b. b.interpolation) 64 t.bones (interpolations_wide t.bones w.bones.1);
  morph_name_indices = morph_count t;
  morph_frames = length-map t.morphs (λ m. m.frame);
  morph_weights = length-map t.morphs (λ m. m.weight);
}

-- ---- what is left in the buffers

-- the parts under another model name
unfoldable pub with_model : List ℕ → Parts → Parts
with_model n p = record {
  model = n;
  bone_names = p.bone_names;
  morph_names = p.morph_names;
  cameras = p.cameras;
  lights = p.lights;
  self_shadows = p.self_shadows;
  properties = p.properties;
  bone_name_indices = p.bone_name_indices;
  bone_frames = p.bone_frames;
  bone_translations = p.bone_translations;
  bone_rotations = p.bone_rotations;
  bone_interpolations = p.bone_interpolations;
  morph_name_indices = p.morph_name_indices;
  morph_frames = p.morph_frames;
  morph_weights = p.morph_weights;
}

-- a function of two lists at each buffer; the model name is the second's
unfoldable pub by_field : (List ℕ → List ℕ → List ℕ) → Parts → Parts → Parts
by_field f p q = record {
  model = q.model;
  bone_names = record { bytes = f p.bone_names.bytes q.bone_names.bytes; ends = f p.bone_names.ends q.bone_names.ends };
  morph_names = record { bytes = f p.morph_names.bytes q.morph_names.bytes; ends = f p.morph_names.ends q.morph_names.ends };
  cameras = f p.cameras q.cameras;
  lights = f p.lights q.lights;
  self_shadows = f p.self_shadows q.self_shadows;
  properties = f p.properties q.properties;
  bone_name_indices = f p.bone_name_indices q.bone_name_indices;
  bone_frames = f p.bone_frames q.bone_frames;
  bone_translations = f p.bone_translations q.bone_translations;
  bone_rotations = f p.bone_rotations q.bone_rotations;
  bone_interpolations = f p.bone_interpolations q.bone_interpolations;
  morph_name_indices = f p.morph_name_indices q.morph_name_indices;
  morph_frames = f p.morph_frames q.morph_frames;
  morph_weights = f p.morph_weights q.morph_weights;
}

-- of each buffer as many elements as the parts have, and the others
unfoldable pub fronts : Parts → Parts → Parts
fronts = by_field (λ v l. take (length v) l)

unfoldable pub tails : Parts → Parts → Parts
tails = by_field (λ v l. drop (length v) l)

-- the fronts of the buffers at exit are the parts, but for the model name
pub given_fronts : (p lent : Parts) → fronts p (parts_left lent (given p)) ≡ with_model lent.model p
unfolding fronts by_field parts_left with_model
given_fronts p lent = simp take-append_seam

-- "Places past those written keep their contents."
pub given_tails : (p lent : Parts) → tails p (parts_left lent (given p)) ≡ tails p lent
unfolding tails by_field parts_left
given_tails p lent = simp drop-append_seam

-- with the file's model name, the fronts of the buffers at exit are the parts of its take
pub left_parts : (m : Manner) (s : List ℕ) (t : Take) → read_take m s ≡ given t → (lent p : Parts) → split m s lent ≡ given p
    → with_model t.model (fronts p (parts_left lent (split m s lent))) ≡ parts_of_take t
unfolding with_model parts_of_take
left_parts m s t e lent p g =
    let q = ((split_gives m s t e lent p).0 g).0 in
    rw g (ap (with_model t.model) (given_fronts p lent) ∙ rw q)
