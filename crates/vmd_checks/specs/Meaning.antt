-- The parts that the lists of a call are. Definitions only.
use Rattle.std.specs.Prelude.{List, ℕ, Float}
use Rattle.vmd_format.specs.Parts as format
use Rattle.vmd_check_tables.specs.Meaning.{table_of}
use Rattle.vmd_check_columns.specs.Meaning.{bits}
use Rattle.vmd_checks.specs.declared.VmdParts.{VmdParts}

-- the parts that the lists of a call are
abbrev pub parts_of : List ℕ → List ℕ → List ℕ → List ℕ → List ℕ → List ℕ → List ℕ → List ℕ → List ℕ → List ℕ → List ℕ → List Float → List Float → List ℕ → List ℕ → List ℕ → List Float → format.Parts
parts_of model bone_bytes bone_ends morph_bytes morph_ends cameras lights self_shadows properties indices frames translations rotations interpolations morph_indices morph_frames weights = record {
  model = model;
  bone_names = table_of bone_bytes bone_ends;
  morph_names = table_of morph_bytes morph_ends;
  cameras = cameras;
  lights = lights;
  self_shadows = self_shadows;
  properties = properties;
  bone_name_indices = indices;
  bone_frames = frames;
  bone_translations = bits translations;
  bone_rotations = bits rotations;
  bone_interpolations = interpolations;
  morph_name_indices = morph_indices;
  morph_frames = morph_frames;
  morph_weights = bits weights;
}

-- the same of the code's struct
abbrev pub parts_is : VmdParts → format.Parts
parts_is p =
    parts_of p.model_name.now p.bone_names.bytes.now p.bone_names.ends.now p.morph_names.bytes.now p.morph_names.ends.now
    p.camera_frames.now p.light_frames.now p.self_shadow_frames.now p.property_frames.now
    p.bones.name_indices.now p.bones.frames.now p.bones.translations_xyz.now p.bones.rotations_xyzw.now p.bones.interpolations.now
    p.morphs.name_indices.now p.morphs.frames.now p.morphs.weights.now
