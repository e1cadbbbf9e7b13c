-- What writing meets: the parts as the checks let them through, and the bytes in two halves. Definitions only.
use Rattle.std.specs.Prelude.{ℕ, ◌/◌, ◌≤◌, ◌≡◌, true, List, ◌++◌, map, length}
use Rattle.vmd_format.specs.Read.{fixed, write_counted}
use Rattle.vmd_format.specs.Take.{newer, property, write_header}
use Rattle.vmd_format.specs.Records.{Bone, Morph, bone, morph, camera, light, self_shadow}
use Rattle.vmd_format.specs.Parts.{Parts, records_of, frames, properties_of, is_got, upto}
use Rattle.vmd_write_columns.specs.Stages.{bone_of, morph_of}

unfoldable pub front_bytes : List ℕ → List Bone → List Morph → List ℕ
front_bytes m b f = write_header newer m ++ (write_counted (fixed bone) b ++ write_counted (fixed morph) f)

-- the front of the file of some parts
abbrev pub front_of : Parts → List ℕ
front_of p =
    front_bytes p.model
    (map (bone_of p.bone_names p.bone_name_indices p.bone_frames p.bone_translations p.bone_rotations p.bone_interpolations) (upto 0 (length p.bone_name_indices)))
    (map (morph_of p.morph_names p.morph_name_indices p.morph_frames p.morph_weights) (upto 0 (length p.morph_name_indices)))

-- record bytes as the checks let them through
pub record RecordsFit (c l s p : List ℕ) : Type 0 where
  pub properties : is_got (frames p) ≡ true
  pub camera_count : length c / 61 ≤ 4294967295
  pub light_count : length l / 28 ≤ 4294967295
  pub self_shadow_count : length s / 9 ≤ 4294967295
  pub property_count : length (properties_of p) ≤ 4294967295

unfoldable pub back_bytes : List ℕ → List ℕ → List ℕ → List ℕ → List ℕ
back_bytes c l s p =
    write_counted (fixed camera) (records_of camera c) ++ (write_counted (fixed light) (records_of light l)
    ++ (write_counted (fixed self_shadow) (records_of self_shadow s) ++ write_counted property (properties_of p)))
