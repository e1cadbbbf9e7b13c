-- Excerpts computed from a take's bytes: both ends of the frames in every section, and the refusals at their limits.
use Rattle.std.specs.Prelude.{ℕ, ◌≡◌, refl, List, [], ◌∷◌, ◌++◌, length, drop, replicate, T}
use Rattle.vmd_format.specs.Answer.{fitted, left}
use Rattle.vmd_format.specs.Read.{strict, lenient}
use Rattle.vmd_format.specs.Computed.{computed, declines, bytes_of, text, start, older_text, fours, u0, u1, bone_bytes, morph_bytes, camera_bytes, light_bytes, shadow_bytes, ik_bytes, one_each}
use Rattle.vmd_keys.specs.Names.{keep_if, select}
use Rattle.vmd_framed.specs.Excerpt.{bone_framed, morph_framed, camera_framed, light_framed, self_shadow_framed, property_framed, moved, excerpt_section, excerpt}
use Rattle.vmd_excerpt.specs.Excerpted.{excerpt_file}

-- unfolding this and `computed` unfolds the definitions of an excerpt
unfoldable excerpt_computed : Unit {0}
unfolding keep_if select bone_framed morph_framed camera_framed light_framed self_shadow_framed property_framed moved excerpt_section excerpt excerpt_file
excerpt_computed = tt

-- a record that begins with its frame, at another frame
abbrev at : ℕ → List ℕ → List ℕ
at f r = fours (f ∷ []) ++ drop 4 r

-- ---- frames 5 to 7

-- Bones at 7, 4, 5 and 8, with bytes after the names' ends; morphs at 6 and 3, cameras at 8 and 7, lights at 5 and 4, self-shadows
-- at 4 and 6. Property frames at 4 with an IK state, at 7 with two, of which the first is switched off, at 5 with none and at 8
-- with one.
abbrev sections : List ℕ
sections =
    fours (4 ∷ []) ++ bone_bytes 65 9 7 ++ bone_bytes 66 8 4 ++ bone_bytes 67 7 5 ++ bone_bytes 68 6 8
    ++ fours (2 ∷ []) ++ morph_bytes 69 5 6 ++ morph_bytes 70 4 3
    ++ fours (2 ∷ []) ++ camera_bytes 8 0 ++ camera_bytes 7 2
    ++ fours (2 ∷ []) ++ light_bytes 5 ++ light_bytes 4
    ++ fours (2 ∷ []) ++ shadow_bytes 4 1 ++ shadow_bytes 6 2
    ++ fours (4 ∷ []) ++ fours (4 ∷ []) ++ (1 ∷ []) ++ u1 ++ ik_bytes 71 3 1
    ++ fours (7 ∷ []) ++ (2 ∷ []) ++ fours (2 ∷ []) ++ ik_bytes 72 2 0 ++ ik_bytes 73 1 3
    ++ fours (5 ∷ []) ++ (0 ∷ []) ++ u0
    ++ fours (8 ∷ []) ++ (1 ∷ []) ++ u1 ++ ik_bytes 74 9 0

abbrev file : List ℕ
file = text ++ (1 ∷ 2 ∷ 3 ∷ 4 ∷ 77 ∷ 0 ∷ replicate 18 9) ++ sections

-- canonical, in file order, 5 subtracted from each frame
abbrev piece : List ℕ
piece =
    text ++ (0 ∷ 0 ∷ 0 ∷ 0 ∷ 77 ∷ replicate 19 0)
    ++ fours (2 ∷ []) ++ bone_bytes 65 0 2 ++ bone_bytes 67 0 0
    ++ u1 ++ morph_bytes 69 0 1
    ++ u1 ++ at 2 (camera_bytes 7 1)
    ++ u1 ++ at 0 (light_bytes 5)
    ++ u1 ++ at 1 (shadow_bytes 6 2)
    ++ fours (2 ∷ []) ++ fours (2 ∷ []) ++ (1 ∷ []) ++ fours (2 ∷ []) ++ ik_bytes 72 0 0 ++ ik_bytes 73 0 1
    ++ u0 ++ (0 ∷ []) ++ u0

pub excerpt_told : bytes_of (excerpt_file strict 5 7 file) ≡ piece
unfolding computed excerpt_computed
excerpt_told = refl

-- the same take in the older edition
pub older_told : bytes_of (excerpt_file lenient 5 7 (older_text ++ (1 ∷ 2 ∷ 3 ∷ 4 ∷ 77 ∷ 0 ∷ replicate 8 9) ++ sections)) ≡ piece
unfolding computed excerpt_computed
older_told = refl

-- ---- each section by itself, and nothing

-- one record in every section, at frames 4 to 9: those at 6, 7 and 8 stay
pub each_told :
    bytes_of (excerpt_file lenient 6 8 (one_each (replicate 20 0) 4 5 6 7 8 9))
    ≡ start ++ u0 ++ u0 ++ u1 ++ at 0 (camera_bytes 6 1) ++ u1 ++ at 1 (light_bytes 7) ++ u1 ++ at 2 (shadow_bytes 8 2) ++ u0
unfolding computed excerpt_computed
each_told = refl

-- the others of them
pub others_told :
    (bytes_of (excerpt_file lenient 4 4 (one_each (replicate 20 0) 4 5 6 7 8 9)) ≡ start ++ u1 ++ bone_bytes 65 0 0 ++ replicate 20 0)
    × (bytes_of (excerpt_file lenient 5 5 (one_each (replicate 20 0) 4 5 6 7 8 9)) ≡ start ++ u0 ++ u1 ++ morph_bytes 66 0 0 ++ replicate 16 0)
    × (bytes_of (excerpt_file lenient 9 9 (one_each (replicate 20 0) 4 5 6 7 8 9)) ≡ start ++ replicate 20 0 ++ u1 ++ u0 ++ (1 ∷ []) ++ u1 ++ ik_bytes 67 0 1)
unfolding computed excerpt_computed
others_told = (refl, refl, refl)

-- no record: 74 bytes, and the model name
pub nothing_told : bytes_of (excerpt_file lenient 9 200 file) ≡ text ++ (0 ∷ 0 ∷ 0 ∷ 0 ∷ 77 ∷ replicate 43 0)
unfolding computed excerpt_computed
nothing_told = refl

-- ---- all 32 bits of a frame, without a sign: lights at 0, 2^31 - 1, 2^31 and 4,294,967,295

abbrev light_at : List ℕ → List ℕ
light_at f = f ++ drop 4 (light_bytes 0)

abbrev lights : List ℕ → List ℕ
lights l = start ++ u0 ++ u0 ++ u0 ++ l ++ u0 ++ u0

abbrev far : List ℕ
far =
    lights (fours (4 ∷ []) ++ light_at u0 ++ light_at (255 ∷ 255 ∷ 255 ∷ 127 ∷ []) ++ light_at (0 ∷ 0 ∷ 0 ∷ 128 ∷ []) ++ light_at (255 ∷ 255 ∷ 255 ∷ 255 ∷ []))

pub far_told :
    (bytes_of (excerpt_file lenient 2147483648 4294967295 far) ≡ lights (fours (2 ∷ []) ++ light_at u0 ++ light_at (255 ∷ 255 ∷ 255 ∷ 127 ∷ [])))
    × (bytes_of (excerpt_file lenient 1 2147483647 far) ≡ lights (u1 ++ light_at (254 ∷ 255 ∷ 255 ∷ 127 ∷ [])))
    × (bytes_of (excerpt_file lenient 4294967295 4294967295 far) ≡ lights (u1 ++ light_at u0))
    × (bytes_of (excerpt_file lenient 0 0 far) ≡ lights (u1 ++ light_at u0))
    × (bytes_of (excerpt_file lenient 0 4294967295 far) ≡ far)
unfolding computed excerpt_computed
far_told = (refl, refl, refl, refl, refl)

-- ---- refusals

-- 18 comes before 1 and 2, whatever the output, and only where the first frame is above the last; then the file is read, in its
-- manner; a byte too few is 13
pub refusals_told :
    T (declines (excerpt_file lenient 2 1 []) 18) × T (declines (excerpt_file strict 2 1 (replicate 60 0)) 18) × T (declines (fitted 0 (excerpt_file strict 1 0 (start ++ u0))) 18)
    × T (declines (excerpt_file lenient 1 1 []) 1) × T (declines (excerpt_file lenient 1 1 (replicate 60 0)) 2)
    × T (declines (excerpt_file strict 1 1 (start ++ replicate 25 0)) 16) × T (declines (excerpt_file strict 1 1 (start ++ u0 ++ u0 ++ u1)) 17)
    × (length (bytes_of (excerpt_file lenient 1 1 (start ++ u0 ++ u0 ++ u1))) ≡ 74)
    × T (declines (fitted 73 (excerpt_file lenient 1 1 (start ++ u0))) 13)
unfolding computed excerpt_computed
refusals_told = (tt, tt, tt, tt, tt, tt, tt, refl, tt)

-- the output at exit: what is written, and bytes after it as they were; a refusal leaves all
pub output_told :
    (left (replicate 76 7) (fitted 76 (excerpt_file lenient 9 9 file)) ≡ text ++ (0 ∷ 0 ∷ 0 ∷ 0 ∷ 77 ∷ replicate 43 0) ++ (7 ∷ 7 ∷ []))
    × (left (replicate 73 7) (fitted 73 (excerpt_file lenient 9 9 file)) ≡ replicate 73 7)
    × (left (replicate 80 7) (fitted 80 (excerpt_file lenient 9 8 file)) ≡ replicate 80 7)
unfolding computed excerpt_computed
output_told = (refl, refl, refl)
