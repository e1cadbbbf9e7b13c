-- Fetches with an opening or scratch that is not the file's own: document 01, "Opening". Every cause of refusal 4, and every
-- part that is empty in its place. A fetch looks at the bytes, the section and the scratch alone, so no header is needed.
use Rattle.std.specs.Prelude.{ℕ, ◌≡◌, refl, true, false, ◌&&◌, List, [], ◌∷◌, ◌++◌, take, replicate, T}
use Rattle.vmd_format.specs.Answer.{Answer, given, map_answer}
use Rattle.vmd_format.specs.Records.{Morph, IkState, bone, morph, camera}
use Rattle.vmd_format.specs.Fetch.{fetch, or_empty, model_of, PropertyHead, fetch_property, fetch_ik_state}
use Rattle.vmd_format.specs.Computed.{computed, declines, last, text, fours, bone_bytes, bone_said, morph_bytes, morph_said, camera_bytes, camera_said, ik_bytes, ik_said}

-- ---- records of one size

-- two bytes and two morphs, 48 bytes
abbrev morphs : List ℕ
morphs = 1 ∷ 2 ∷ morph_bytes 66 88 9 ++ morph_bytes 67 88 10

abbrev morph_of : ℕ → ℕ → ℕ → Answer Morph
morph_of count place i = fetch morph (record { count = count; place = place }) i morphs

-- the record that the layout reads at the place, wherever that is in the file
pub at_the_place :
    (morph_of 2 2 0 ≡ given (morph_said 66 9))
    × (morph_of 2 2 1 ≡ given (morph_said 67 10))
    × (morph_of 1 25 0 ≡ given (morph_said 67 10))
    × (morph_of 1 0 0 ≡ given (record { name = 1 ∷ 2 ∷ 66 ∷ []; frame = 612440; weight = 1179648 }))
unfolding computed
at_the_place = (refl, refl, refl, refl)

-- 4: a number at the count and above it; a record one byte past the end, one record past it, at the end; a place whose sum
-- would wrap
pub record_outside : T (
    declines (morph_of 2 2 2) 4 && declines (morph_of 0 2 0) 4 && declines (morph_of 1 2 1) 4 && declines (morph_of 2 2 last) 4
    && declines (morph_of 1 26 0) 4 && declines (morph_of 3 2 2) 4 && declines (morph_of 1 48 0) 4
    && declines (morph_of 1 last 0) 4 && declines (morph_of 4294967295 last 4294967294) 4)
unfolding computed
record_outside = tt

-- ---- property frames

-- a frame with two IK states, 51 bytes
abbrev frame : List ℕ
frame = fours (10 ∷ []) ++ (255 ∷ []) ++ fours (2 ∷ []) ++ ik_bytes 75 88 255 ++ ik_bytes 76 88 0

-- the same with the bytes of one more after them, so that a number at the count is refused by the count alone
abbrev longer : List ℕ
longer = frame ++ ik_bytes 77 88 1

-- places of another file, for frames 0, 16, 32 and 48: the frame's, the last with nine bytes there, the first without, and the
-- largest number
abbrev scratch : List ℕ
scratch = 0 ∷ 42 ∷ 43 ∷ last ∷ []

abbrev property_of : ℕ → ℕ → Answer PropertyHead
property_of count i = fetch_property (record { count = count; place = 0 }) scratch i frame

-- nine bytes are a property frame, though its IK states be past the end
pub frame_at_the_place :
    (property_of 65 0 ≡ given (record { frame = 10; visible = true; ik_count = 2 }))
    × (property_of 65 16 ≡ given (record { frame = 1482184792; visible = true; ik_count = 5789784 }))
unfolding computed
frame_at_the_place = (refl, refl)

-- 4: nine bytes not there, a place whose sum would wrap, a scratch too short for the number, a number at the count
pub frame_outside : T (
    declines (property_of 65 32) 4 && declines (property_of 65 48) 4 && declines (property_of 65 64) 4
    && declines (property_of 16 16) 4 && declines (property_of 0 0) 4)
unfolding computed
frame_outside = tt

abbrev ik_in : List ℕ → ℕ → ℕ → ℕ → Answer IkState
ik_in s count i j = fetch_ik_state (record { count = count; place = 0 }) scratch i j s

abbrev ik_of : ℕ → ℕ → ℕ → Answer IkState
ik_of = ik_in frame

-- each needs its own bytes only: the first is there where the second is cut
pub state_at_the_place :
    (ik_of 65 0 0 ≡ given (ik_said 75 true)) × (ik_of 65 0 1 ≡ given (ik_said 76 false)) × (ik_in (take 50 frame) 65 0 0 ≡ given (ik_said 75 true))
    × T (declines (ik_in (take 50 frame) 65 0 1) 4)
unfolding computed
state_at_the_place = (refl, refl, refl, tt)

-- 4: an IK number at its count, an IK count past the end, and each frame that is outside
pub state_outside : T (
    declines (ik_of 65 0 2) 4 && declines (ik_in longer 65 0 2) 4 && declines (ik_of 65 16 0) 4 && declines (ik_of 65 32 0) 4 && declines (ik_of 65 48 0) 4
    && declines (ik_of 65 64 0) 4 && declines (ik_of 16 16 0) 4)
unfolding computed
state_outside = tt

-- ---- parts of the file

-- a bone's name and interpolation bytes, and a camera's; empty one byte past the end, and at the count
abbrev bone_at : ℕ → ℕ → List ℕ × List ℕ
bone_at place i =
    let x = fetch bone (record { count = 1; place = place }) i (bone_bytes 65 88 7 ++ bone_bytes 66 88 8) in
    (or_empty (map_answer (λ b. b.name) x), or_empty (map_answer (λ b. b.interpolation) x))

abbrev camera_at : ℕ → ℕ → List ℕ
camera_at place i = or_empty (map_answer (λ c. c.interpolation) (fetch camera (record { count = 1; place = place }) i (camera_bytes 5 0 ++ camera_bytes 6 1)))

pub parts_or_empty :
    (bone_at 0 0 ≡ ((bone_said 65 7).name, (bone_said 65 7).interpolation)) × (bone_at 112 0 ≡ ([], [])) × (bone_at 0 1 ≡ ([], []))
    × (camera_at 0 0 ≡ (camera_said 5 true).interpolation) × (camera_at 62 0 ≡ []) × (camera_at 0 1 ≡ [])
    × (or_empty (map_answer (λ m. m.name) (morph_of 2 2 1)) ≡ 67 ∷ []) × (or_empty (map_answer (λ m. m.name) (morph_of 1 2 1)) ≡ [])
    × (or_empty (map_answer (λ k. k.name) (ik_of 65 0 0)) ≡ 75 ∷ []) × (or_empty (map_answer (λ k. k.name) (ik_in longer 65 0 2)) ≡ [])
unfolding computed
parts_or_empty = (refl, refl, refl, refl, refl, refl, refl, refl, refl, refl)

-- the model name of fifty bytes and of one that is refused there: one byte fewer, another magic, fewer than 30 bytes
pub model_or_empty :
    (model_of (text ++ replicate 4 88 ++ (77 ∷ 105 ∷ 0 ∷ replicate 17 88)) ≡ 77 ∷ 105 ∷ [])
    × (model_of (text ++ replicate 4 88 ++ (77 ∷ 105 ∷ 0 ∷ replicate 16 88)) ≡ [])
    × (model_of (replicate 26 86 ++ replicate 4 88 ++ (77 ∷ 105 ∷ 0 ∷ replicate 17 88)) ≡ [])
    × (model_of text ≡ [])
unfolding computed
model_or_empty = (refl, refl, refl, refl)
