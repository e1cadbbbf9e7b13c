-- A whole file: six different counts, a model name, and the largest frame in its property section.
use Rattle.std.specs.Prelude.{ℕ, ◌≡◌, refl, true, false, ◌&&◌, List, [], ◌∷◌, ◌++◌, length, take, replicate, eqb, T}
use Rattle.vmd_format.specs.Answer.{given, map_answer}
use Rattle.vmd_format.specs.Read.{lenient}
use Rattle.vmd_format.specs.Take.{Take, read_take}
use Rattle.vmd_format.specs.Opening.{open_file, positions, scratch_after}
use Rattle.vmd_format.specs.Join.{export_file}
use Rattle.vmd_format.specs.Computed.{computed, declines, bytes_of, text, fours, bone_bytes, bone_said, morph_bytes, morph_said, camera_bytes, camera_said, light_bytes, light_said, shadow_bytes, shadow_said, ik_bytes, ik_said}

-- The file's bytes: j stands after the magic's 26 bytes and after every name, p is the byte of a perspective that is
-- false, and v the byte of each flag that is true.
abbrev bytes : ℕ → ℕ → ℕ → List ℕ
bytes j p v =
    text ++ replicate 4 j ++ (77 ∷ 105 ∷ 0 ∷ replicate 17 j)
    ++ fours (1 ∷ []) ++ bone_bytes 65 j 7
    ++ fours (4 ∷ []) ++ morph_bytes 66 j 1 ++ morph_bytes 67 j 9 ++ morph_bytes 66 j 2 ++ morph_bytes 68 j 3
    ++ fours (2 ∷ []) ++ camera_bytes 5 0 ++ camera_bytes 4 p
    ++ fours (5 ∷ []) ++ light_bytes 1 ++ light_bytes 2 ++ light_bytes 3 ++ light_bytes 4 ++ light_bytes 5
    ++ fours (6 ∷ []) ++ shadow_bytes 6 0 ++ shadow_bytes 5 1 ++ shadow_bytes 4 2 ++ shadow_bytes 3 3 ++ shadow_bytes 2 200 ++ shadow_bytes 1 255
    ++ fours (3 ∷ [])
    ++ fours (10 ∷ []) ++ (v ∷ []) ++ fours (1 ∷ []) ++ ik_bytes 75 j v
    ++ (0x70 ∷ 0x11 ∷ 0x01 ∷ 0x00 ∷ 0 ∷ []) ++ fours (2 ∷ []) ++ ik_bytes 76 j 0 ++ ik_bytes 77 j v
    ++ fours (12 ∷ []) ++ (v ∷ []) ++ fours (0 ∷ [])

-- the file as it comes, and its export
abbrev file : List ℕ
file = bytes 88 2 255

abbrev canonical : List ℕ
canonical = bytes 0 1 1

-- what the file says
abbrev said : Take
said = record {
  model = 77 ∷ 105 ∷ [];
  bones = bone_said 65 7 ∷ [];
  morphs = morph_said 66 1 ∷ morph_said 67 9 ∷ morph_said 66 2 ∷ morph_said 68 3 ∷ [];
  cameras = camera_said 5 true ∷ camera_said 4 false ∷ [];
  lights = light_said 1 ∷ light_said 2 ∷ light_said 3 ∷ light_said 4 ∷ light_said 5 ∷ [];
  self_shadows = shadow_said 6 0 ∷ shadow_said 5 1 ∷ shadow_said 4 2 ∷ shadow_said 3 3 ∷ shadow_said 2 200 ∷ shadow_said 1 255 ∷ [];
  properties =
      record { frame = 10; visible = true; ik_states = ik_said 75 true ∷ [] }
      ∷ record { frame = 70000; visible = false; ik_states = ik_said 76 false ∷ ik_said 77 true ∷ [] }
      ∷ record { frame = 12; visible = true; ik_states = [] } ∷ [];
}

-- its take, every field of it
pub file_read : read_take lenient file ≡ given said
unfolding computed
file_read = refl

-- bytes after the last property frame are ignored
pub bytes_over_ignored : read_take lenient (file ++ (1 ∷ 0 ∷ [])) ≡ given said
unfolding computed
bytes_over_ignored = refl

-- cut in or before its last frame, or one byte into its last count, it is refused; cut before that count, it has no properties
pub file_cut :
    T (declines (read_take lenient (take 682 file)) 1 && declines (read_take lenient (take 674 file)) 1 && declines (read_take lenient (take 590 file)) 1)
    × (map_answer (λ t. t.properties) (read_take lenient (take 589 file)) ≡ given [])
unfolding computed
file_cut = (tt, refl)

-- its opening, with just enough scratch
pub file_opened : open_file lenient file 1 ≡ given (record {
  scan = record {
    bones = record { count = 1; place = 54 };
    morphs = record { count = 4; place = 169 };
    cameras = record { count = 2; place = 265 };
    lights = record { count = 5; place = 391 };
    self_shadows = record { count = 6; place = 535 };
    properties = record { count = 3; place = 593 };
    ik_states = 3;
  };
  smallest_frame = 1;
  largest_frame = 70000;
})
unfolding computed
file_opened = refl

-- where its property frames stand
pub file_positions : positions 593 said.properties ≡ 593 ∷ 623 ∷ 674 ∷ []
unfolding computed
file_positions = refl

-- a scratch of three places receives the first frame's position and keeps its tail
pub scratch_kept : scratch_after lenient file (91 ∷ 92 ∷ 93 ∷ []) ≡ 593 ∷ 92 ∷ 93 ∷ []
unfolding computed
scratch_kept = refl

-- more scratch changes nothing in the opening
pub more_scratch : open_file lenient file 3 ≡ open_file lenient file 1
unfolding computed
more_scratch = refl

-- no place for its three frames: refusal 3
pub scratch_tested : T (declines (open_file lenient file 0) 3)
unfolding computed
scratch_tested = tt

-- refusal 3, and refusal 1 of a file cut before its last byte, leave the scratch as it was
pub scratch_unchanged :
    (scratch_after lenient file [] ≡ [])
    × (scratch_after lenient (take 682 file) (91 ∷ 92 ∷ 93 ∷ []) ≡ 91 ∷ 92 ∷ 93 ∷ [])
unfolding computed
scratch_unchanged = (refl, refl)

-- its export, every byte: magic and names padded with zeros, flags as 0 or 1
pub file_exported : export_file lenient file ≡ given canonical
unfolding computed
file_exported = refl

-- 74 + 111 * 1 + 23 * 4 + 61 * 2 + 28 * 5 + 9 * 6 + 9 * 3 + 21 * 3
pub export_length : T (eqb (length (bytes_of (export_file lenient file))) 683)
unfolding computed
export_length = tt
