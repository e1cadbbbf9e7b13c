-- Building, of what the call answers and leaves in its output, in the terms of its contract: a file that the reader accepts,
-- in every manner of reading, and that reads back as the take the parts mean. What is assumed of the lists is what the types of
-- the call's slices give, and no more.
use Rattle.std.specs.Prelude.{ℕ, zero, suc, ◌≡◌, List, [], ◌∷◌, length, T, Float}
use Rattle.std.proofs.Common.{arith}
use Rattle.std.specs.Float.{binary32}
use Rattle.std.specs.Float.Ieee.{fits}
use Rattle.std.specs.Float.Ieee.Bits.{to_bits-lt}
use Rattle.vmd_laws.specs.BytesLaws.{Bytes}
use Rattle.vmd_format.specs.Answer.{Answer, given, map_answer, fitted, left, file_left}
use Rattle.vmd_laws.specs.AnswerLaws.{left_whole, not_refused}
use Rattle.vmd_format.specs.Read.{Manner}
use Rattle.vmd_laws.specs.ReadLaws.{All}
use Rattle.vmd_laws.specs.SavingLaws.{Reads}
use Rattle.vmd_format.specs.Parts.{Parts, take_of_parts, build}
use Rattle.vmd_laws.specs.PartsLaws.{Words, InRange, build_accepted}
use Rattle.vmd_check_columns.specs.Meaning.{bits}
use Rattle.vmd_checks.specs.Meaning.{parts_of}

-- ---- definitions

-- the seventeen slices of `build_vmd_animation_from_parts`, in its order
pub record Slices : Type 0 where
  pub model : List ℕ
  pub bone_name_bytes : List ℕ
  pub bone_name_ends : List ℕ
  pub morph_name_bytes : List ℕ
  pub morph_name_ends : List ℕ
  pub cameras : List ℕ
  pub lights : List ℕ
  pub self_shadows : List ℕ
  pub properties : List ℕ
  pub bone_name_indices : List ℕ
  pub bone_frames : List ℕ
  pub bone_translations : List Float
  pub bone_rotations : List Float
  pub bone_interpolations : List ℕ
  pub morph_name_indices : List ℕ
  pub morph_frames : List ℕ
  pub morph_weights : List Float

abbrev pub parts : Slices → Parts
parts x =
    parts_of x.model x.bone_name_bytes x.bone_name_ends x.morph_name_bytes x.morph_name_ends x.cameras x.lights
    x.self_shadows x.properties x.bone_name_indices x.bone_frames x.bone_translations x.bone_rotations
    x.bone_interpolations x.morph_name_indices x.morph_frames x.morph_weights

-- what the call answers, the output at exit, and the file that it leaves there
abbrev pub built_answer : Slices → List ℕ → Answer ℕ
built_answer x out = map_answer length (fitted (length out) (build (parts x)))

abbrev pub built_output : Slices → List ℕ → List ℕ
built_output x out = left out (fitted (length out) (build (parts x)))

abbrev pub built_file : Slices → List ℕ → Answer (List ℕ)
built_file x out = file_left (built_answer x out) (built_output x out)

-- what a slice of f32 gives: each element is a value of that format
abbrev pub Floats : List Float → Type 0
Floats l = All (λ v. T (fits binary32 v)) l

-- what the types of the slices give: u8, u32 and f32. It holds in every call.
pub record Typed (x : Slices) : Type 0 where
  pub model : Bytes x.model
  pub bone_name_bytes : Bytes x.bone_name_bytes
  pub bone_name_ends : Words x.bone_name_ends
  pub morph_name_bytes : Bytes x.morph_name_bytes
  pub morph_name_ends : Words x.morph_name_ends
  pub cameras : Bytes x.cameras
  pub lights : Bytes x.lights
  pub self_shadows : Bytes x.self_shadows
  pub properties : Bytes x.properties
  pub bone_name_indices : Words x.bone_name_indices
  pub bone_frames : Words x.bone_frames
  pub bone_translations : Floats x.bone_translations
  pub bone_rotations : Floats x.bone_rotations
  pub bone_interpolations : Bytes x.bone_interpolations
  pub morph_name_indices : Words x.morph_name_indices
  pub morph_frames : Words x.morph_frames
  pub morph_weights : Floats x.morph_weights

-- ---- the parts of a call are in range

bits_words : (l : List Float) → Floats l → Words (bits l)
bits_words [] h i = omega arith
bits_words (v ∷ l) h zero = to_bits-lt binary32 v h.0
bits_words (v ∷ l) h (suc i) = bits_words l h.1 i

pub typed_in_range : (x : Slices) → Typed x → InRange (parts x)
typed_in_range x h = record {
  model = h.model;
  bone_names = record { bytes = h.bone_name_bytes; ends = h.bone_name_ends };
  morph_names = record { bytes = h.morph_name_bytes; ends = h.morph_name_ends };
  cameras = h.cameras;
  lights = h.lights;
  self_shadows = h.self_shadows;
  properties = h.properties;
  bone_name_indices = h.bone_name_indices;
  bone_frames = h.bone_frames;
  bone_translations = bits_words x.bone_translations h.bone_translations;
  bone_rotations = bits_words x.bone_rotations h.bone_rotations;
  bone_interpolations = h.bone_interpolations;
  morph_name_indices = h.morph_name_indices;
  morph_frames = h.morph_frames;
  morph_weights = bits_words x.morph_weights h.morph_weights;
}

-- ---- what a call that is not refused leaves is accepted, and reads back as the take that the parts mean

pub build_back : (m : Manner) (x : Slices) (out : List ℕ) → Typed x → (n : ℕ) → built_answer x out ≡ given n
    → Reads m (built_file x out) (take_of_parts (parts x))
build_back m x out h n e =
    let w = not_refused (length out) n (build (parts x)) e in
    record {
      file = w.bytes;
      is = left_whole w.bytes out (build (parts x)) w.is w.fits;
      accepted = build_accepted m (typed_in_range x h) w.bytes w.is;
    }
