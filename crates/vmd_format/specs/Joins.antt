-- Joins, oversized counts, and outputs that are too short or longer than the export.
use Rattle.std.specs.Prelude.{ℕ, ◌+◌, ◌≡◌, refl, true, false, ◌&&◌, List, [], ◌∷◌, ◌++◌, length, replicate, eqb, leb, T}
use Rattle.vmd_format.specs.Refusal.{count_too_large}
use Rattle.vmd_format.specs.Answer.{Answer, declined, given, and_then, fitted, left}
use Rattle.vmd_format.specs.Records.{Property}
use Rattle.vmd_format.specs.Read.{lenient}
use Rattle.vmd_format.specs.Take.{Take, read_take}
use Rattle.vmd_format.specs.Opening.{Opening, open_file, smaller_of}
use Rattle.vmd_format.specs.Join.{export_file, join_takes, join_files}
use Rattle.vmd_format.specs.Computed.{computed, declines, bytes_of, start, fours, u0, u1, bone_said, morph_said, camera_said, light_bytes, light_said, shadow_bytes, shadow_said, ik_said, one_each}

-- all its records at one frame
abbrev all_at : List ℕ → ℕ → List ℕ
all_at n f = one_each n f f f f f f

abbrev property_said : ℕ → Property
property_said f = record { frame = f; visible = true; ik_states = ik_said 67 true ∷ [] }

-- two takes with names, and one whose name is empty: bytes after its first zero do not count
abbrev first : List ℕ
first = all_at (70 ∷ replicate 19 0) 1

abbrev second : List ℕ
second = all_at (83 ∷ 50 ∷ replicate 18 0) 2

abbrev nameless : List ℕ
nameless = all_at (0 ∷ 88 ∷ replicate 18 0) 1

-- the take that a join says
abbrev joined : List ℕ → List ℕ → Answer Take
joined a b = and_then (join_files lenient a b) (read_take lenient)

-- what the first of two joined takes says, then the second, under this model name
abbrev both : List ℕ → Take
both n = record {
  model = n;
  bones = bone_said 65 1 ∷ bone_said 65 2 ∷ [];
  morphs = morph_said 66 1 ∷ morph_said 66 2 ∷ [];
  cameras = camera_said 1 false ∷ camera_said 2 false ∷ [];
  lights = light_said 1 ∷ light_said 2 ∷ [];
  self_shadows = shadow_said 1 2 ∷ shadow_said 2 2 ∷ [];
  properties = property_said 1 ∷ property_said 2 ∷ [];
}

-- in every section the first file's record, then the second's; and the first file's model name
pub first_then_second : joined first second ≡ given (both (70 ∷ []))
unfolding computed
first_then_second = refl

-- where the first file's name is empty, the second's
pub second_name_taken : joined nameless second ≡ given (both (83 ∷ 50 ∷ []))
unfolding computed
second_name_taken = refl

-- 74 + 2 * (111 + 23 + 61 + 28 + 9 + 9 + 21)
pub join_length : T (eqb (length (bytes_of (join_files lenient first second))) 598)
unfolding computed
join_length = tt

-- the smallest and the largest frame of a join, none where it is refused
abbrev frames_of : Answer Opening → List ℕ
frames_of (declined k) = []
frames_of (given o) = o.smallest_frame ∷ o.largest_frame ∷ []

abbrev frames_after : List ℕ → List ℕ → List ℕ
frames_after a b = frames_of (and_then (join_files lenient a b) λ s. open_file lenient s 2)

-- a take without records does not count, on either side
pub frames_joined :
    (frames_after first second ≡ 1 ∷ 2 ∷ [])
    × (frames_after second first ≡ 1 ∷ 2 ∷ [])
    × (frames_after second (start ++ u0) ≡ 2 ∷ 2 ∷ [])
    × (frames_after (start ++ u0) second ≡ 2 ∷ 2 ∷ [])
    × (frames_after (start ++ u0) (start ++ u0) ≡ 0 ∷ 0 ∷ [])
unfolding computed
frames_joined = (refl, refl, refl, refl, refl)

-- the rule itself: takes of so many records, then their smallest frames; that of a take without records does not count,
-- whatever it is
pub smaller_taken : T (
    eqb (smaller_of 3 4 5 6) 5
    && eqb (smaller_of 3 4 6 5) 5
    && eqb (smaller_of 0 4 5 6) 6
    && eqb (smaller_of 0 4 6 5) 5
    && eqb (smaller_of 3 0 5 6) 5
    && eqb (smaller_of 3 0 6 5) 6
    && eqb (smaller_of 0 0 0 0) 0)
unfolding computed
smaller_taken = tt

-- files that are refused with 1 and with 2
abbrev short : List ℕ
short = replicate 29 65

abbrev other : List ℕ
other = replicate 30 65

-- the first file's refusal, then the second's, and 13 after both
pub join_refusals : T (
    declines (join_files lenient other short) 2
    && declines (join_files lenient short other) 1
    && declines (join_files lenient first short) 1
    && declines (join_files lenient first other) 2
    && declines (fitted 0 (join_files lenient first other)) 2
    && declines (fitted 597 (join_files lenient first second)) 13)
unfolding computed
join_refusals = tt

-- more bones together than 4,294,967,295: 11, also where the output is too short
pub join_too_large :
    (n : ℕ) (t u : Take) → leb (length t.bones + length u.bones) 4294967295 ≡ false
    → fitted n (join_takes t u) ≡ declined count_too_large
unfolding computed
join_too_large n t u h = rw h refl

-- two cameras counted where only the bytes of a section of one light are left; the file has 94 bytes
abbrev oversized : List ℕ
oversized = start ++ u0 ++ u0 ++ fours (2 ∷ []) ++ u1 ++ light_bytes 9

-- what a file with nothing in it says
abbrev nothing : Take
nothing = record { model = []; bones = []; morphs = []; cameras = []; lights = []; self_shadows = []; properties = [] }

-- it is accepted, and has no cameras and no lights
pub oversized_read : read_take lenient oversized ≡ given nothing
unfolding computed
oversized_read = refl

-- so is an oversized light count before a self-shadow, and an oversized self-shadow count before a property frame
pub oversized_others :
    (read_take lenient (start ++ replicate 12 0 ++ fours (2 ∷ []) ++ u1 ++ shadow_bytes 9 1) ≡ given nothing)
    × (read_take lenient (start ++ replicate 16 0 ++ fours (2 ∷ []) ++ u1 ++ replicate 9 0) ≡ given nothing)
unfolding computed
oversized_others = (refl, refl)

-- the places from the cameras on are the file's length
pub oversized_opened : open_file lenient oversized 0 ≡ given (record {
  scan = record {
    bones = record { count = 0; place = 54 };
    morphs = record { count = 0; place = 58 };
    cameras = record { count = 0; place = 94 };
    lights = record { count = 0; place = 94 };
    self_shadows = record { count = 0; place = 94 };
    properties = record { count = 0; place = 94 };
    ik_states = 0;
  };
  smallest_frame = 0;
  largest_frame = 0;
})
unfolding computed
oversized_opened = refl

-- the answer of an export of the first file into an output of n bytes
abbrev into : ℕ → Answer (List ℕ)
into n = fitted n (export_file lenient first)

-- one byte short of 336 is refusal 13; 336 bytes and more are enough
pub output_tested : T (declines (into 335) 13 && eqb (length (bytes_of (into 336))) 336 && eqb (length (bytes_of (into 400))) 336)
unfolding computed
output_tested = tt

-- an output one byte short is left as it was
pub short_output_unchanged : left (replicate 335 7) (into 335) ≡ replicate 335 7
unfolding computed
short_output_unchanged = refl

-- a longer output keeps its tail
pub long_output_keeps_tail : left (replicate 338 7) (into 338) ≡ first ++ (7 ∷ 7 ∷ [])
unfolding computed
long_output_keeps_tail = refl
