-- The parts of a take mean that take: what the builder reads from them is the take again.
use Rattle.std.specs.Prelude.{ℕ, ◌<◌, ◌≡◌, refl, List, [], ◌∷◌, ◌++◌, map, length, get_or}
use Rattle.std.proofs.Common.{ap, ◌∙◌, map-id, arith, length-append}
use Rattle.std.proofs.Math.ListN.{length-map}
use Rattle.vmd_format.specs.Records.{Bone, Morph}
use Rattle.vmd_laws.specs.RecordLaws.{GoodBone, camera_lawful, light_lawful, self_shadow_lawful}
use Rattle.vmd_laws.specs.SizedLaws.{camera_sized, light_sized, self_shadow_sized}
use Rattle.vmd_format.specs.Read.{got}
use Rattle.vmd_laws.specs.ReadLaws.{All}
use Rattle.vmd_format.specs.Take.{Take, property}
use Rattle.vmd_laws.specs.TakeLaws.{WellFormed, property_lawful}
use Rattle.vmd_format.specs.Parts.{names_of, frames, frames_or_none, properties_of, upto, bone_at, morph_at, take_of_parts}
use Rattle.vmd_keys.specs.Names.{bone_names_of, morph_names_of}
use Rattle.vmd_tables.specs.Tables.{name_table, name_indices}
use Rattle.vmd_count.specs.DistinctLaws.{all_then}
use Rattle.vmd_tables.proofs.TableMeaning.{Tabled, tabled, indices_length, index_leads}
use Rattle.vmd_take_parts.specs.Split.{translation, rotation, parts_of_take}
use Rattle.vmd_take_parts.specs.Columns.{all_of, getD_seam, numbered, Wide, part_there, place_there, first_there, records_back, values_back}

-- ---- names

-- the name that the table has under the index of a record
named : {A : Type 0} (f : A → List ℕ) (l : List A) (a : A) (m : List A)
    → let names = map f (l ++ (a ∷ m)) in get_or (names_of (name_table names)) (get_or (name_indices names) (length l) 0) [] ≡ f a
named f l a m =
    let names = map f (l ++ (a ∷ m)) in
    let h : length l < length names = omega (arith, length-map (l ++ (a ∷ m)) f, length-append l (a ∷ m)) in
    index_leads names (length l) h ∙ getD_seam f l a m []

-- "Name tables hold distinct raw names in order of first appearance, and each record gets its index."
module _ (t : Take) where
  pub bones_tabled : Tabled (bone_names_of t) (parts_of_take t).bone_names (parts_of_take t).bone_name_indices
  unfolding parts_of_take
  bones_tabled = tabled (bone_names_of t)

  pub morphs_tabled : Tabled (morph_names_of t) (parts_of_take t).morph_names (parts_of_take t).morph_name_indices
  unfolding parts_of_take
  morphs_tabled = tabled (morph_names_of t)

-- ---- bones and morphs

pub translations_wide : (l : List Bone) → All (Wide translation 3) l
unfolding translation
translations_wide = all_of (Wide translation 3) (λ b. refl)

pub rotations_wide : (l : List Bone) → All (Wide rotation 4) l
unfolding rotation
rotations_wide = all_of (Wide rotation 4) (λ b. refl)

pub interpolations_wide : (l : List Bone) → All GoodBone l → All (Wide (λ b. b.interpolation) 64) l
interpolations_wide = all_then GoodBone (Wide (λ b. b.interpolation) 64) (λ b h. h.1.1.1.1.1.1.1.1.1.long)

module _ (t : Take) where
  -- the columns' bone of a number is the take's
  bone_there : All GoodBone t.bones → (l : List Bone) (b : Bone) (m : List Bone) → t.bones ≡ l ++ (b ∷ m)
      → bone_at (parts_of_take t) (length l) ≡ b
  unfolding bone_at parts_of_take bone_names_of translation rotation
  bone_there h l b m e =
      let s = l ++ (b ∷ m) in
      let t₀ = first_there translation 3 l b m (translations_wide s) (omega arith) in
      let t₃ = place_there translation 3 l b m (translations_wide s) in
      let r₀ = first_there rotation 4 l b m (rotations_wide s) (omega arith) in
      let r₄ = place_there rotation 4 l b m (rotations_wide s) in
      rw e (λ i. record {
        name = named (λ c. c.name) l b m i;
        frame = getD_seam (λ c. c.frame) l b m 0 i;
        tx = t₀ i;
        ty = t₃ 1 (omega arith) i;
        tz = t₃ 2 (omega arith) i;
        rx = r₀ i;
        ry = r₄ 1 (omega arith) i;
        rz = r₄ 2 (omega arith) i;
        rw = r₄ 3 (omega arith) i;
        interpolation = part_there (λ c. c.interpolation) 64 l b m (interpolations_wide s (rw e at h)) i;
      })

  morph_there : (l : List Morph) (f : Morph) (m : List Morph) → t.morphs ≡ l ++ (f ∷ m) → morph_at (parts_of_take t) (length l) ≡ f
  unfolding morph_at parts_of_take morph_names_of
  morph_there l f m e =
      rw e (λ i. record {
        name = named (λ c. c.name) l f m i;
        frame = getD_seam (λ c. c.frame) l f m 0 i;
        weight = getD_seam (λ c. c.weight) l f m 0 i;
      })

  pub bone_count : length (parts_of_take t).bone_name_indices ≡ length t.bones
  unfolding parts_of_take bone_names_of
  bone_count = indices_length (map (λ b. b.name) t.bones) ∙ length-map t.bones (λ b. b.name)

  pub morph_count : length (parts_of_take t).morph_name_indices ≡ length t.morphs
  unfolding parts_of_take morph_names_of
  morph_count = indices_length (map (λ b. b.name) t.morphs) ∙ length-map t.morphs (λ b. b.name)

-- ---- records

property_some : 0 < property.least
unfolding property
property_some = omega arith

pub frames_back : (t : Take) → WellFormed t → frames (parts_of_take t).properties ≡ got t.properties []
unfolding frames parts_of_take
frames_back t w = values_back property_lawful property_some t.properties w.properties.1

-- "an accepted file should yield what the builder takes": it takes the parts for the take
pub parts_mean : (t : Take) → WellFormed t → take_of_parts (parts_of_take t) ≡ t
unfolding take_of_parts properties_of frames_or_none parts_of_take
parts_mean t w =
    let bones : map (bone_at (parts_of_take t)) (upto 0 (length (parts_of_take t).bone_name_indices)) ≡ t.bones =
    rw (bone_count t) (numbered (bone_at (parts_of_take t)) (λ b. b) t.bones (bone_there t w.bones.1) ∙ map-id t.bones) in
    let morphs : map (morph_at (parts_of_take t)) (upto 0 (length (parts_of_take t).morph_name_indices)) ≡ t.morphs =
    rw (morph_count t) (numbered (morph_at (parts_of_take t)) (λ b. b) t.morphs (morph_there t) ∙ map-id t.morphs) in
    let properties : properties_of (parts_of_take t).properties ≡ t.properties = ap frames_or_none (frames_back t w) in
    λ i. record {
      model = t.model;
      bones = bones i;
      morphs = morphs i;
      cameras = records_back camera_lawful camera_sized (omega arith) t.cameras w.cameras.1 i;
      lights = records_back light_lawful light_sized (omega arith) t.lights w.lights.1 i;
      self_shadows = records_back self_shadow_lawful self_shadow_sized (omega arith) t.self_shadows w.self_shadows.1 i;
      properties = properties i;
    }
