-- Files built from parts, each refusal of the builder, and their order.
use Rattle.std.specs.Prelude.{ℕ, ◌+◌, ◌*◌, ◌≡◌, refl, Bool, true, false, ◌&&◌, List, [], ◌∷◌, ◌++◌, length, take, replicate, eqb, leb, T}
use Rattle.vmd_format.specs.Refusal.{Refusal, count_too_large}
use Rattle.vmd_format.specs.Answer.{declined, given, and_then, fitted}
use Rattle.vmd_format.specs.Read.{lenient}
use Rattle.vmd_format.specs.Take.{Take, read_take}
use Rattle.vmd_format.specs.Parts.{NameTable, Parts, Check, passes, fails, ◌next◌, each, upto, columns_check, counts_check, bone_check, take_of_parts, built, build}
use Rattle.vmd_format.specs.Computed.{computed, declines, bytes_of, start, fours, u1, bone_said, morph_said, camera_bytes, camera_said, light_bytes, light_said, shadow_bytes, shadow_said, ik_bytes, ik_said, every}

-- ---- parts in four groups

-- a model name, bone names and morph names
abbrev Names : Type 0
Names = List ℕ × NameTable × NameTable

-- the bytes of cameras, lights, self-shadows and properties
abbrev Records : Type 0
Records = List ℕ × List ℕ × List ℕ × List ℕ

-- name indices, frames, translations, rotations, interpolations
abbrev Bones : Type 0
Bones = List ℕ × List ℕ × List ℕ × List ℕ × List ℕ

-- name indices, frames, weights
abbrev Morphs : Type 0
Morphs = List ℕ × List ℕ × List ℕ

abbrev parts : Names → Records → Bones → Morphs → Parts
parts n r b m = record {
  model = n.0;
  bone_names = n.1;
  morph_names = n.2;
  cameras = r.0;
  lights = r.1;
  self_shadows = r.2;
  properties = r.3;
  bone_name_indices = b.0;
  bone_frames = b.1;
  bone_translations = b.2;
  bone_rotations = b.3;
  bone_interpolations = b.4;
  morph_name_indices = m.0;
  morph_frames = m.1;
  morph_weights = m.2;
}

abbrev table : List ℕ → List ℕ → NameTable
table s e = record { bytes = s; ends = e }

abbrev no_names : NameTable
no_names = table [] []

-- one name, a letter
abbrev a_name : NameTable
a_name = table (65 ∷ []) (1 ∷ [])

abbrev nameless : Names
nameless = ([], no_names, no_names)

abbrev no_records : Records
no_records = ([], [], [], [])

abbrev no_bones : Bones
no_bones = ([], [], [], [], [])

abbrev no_morphs : Morphs
no_morphs = ([], [], [])

-- ---- what is built

-- no parts give the 74 bytes
pub nothing_built : build (parts nameless no_records no_bones no_morphs) ≡ given (start ++ replicate 24 0)
unfolding computed
nothing_built = refl

-- two bones, and one record of every other kind: bones are named "C" and "AB", the morph "D"
abbrev some : Parts
some = parts (77 ∷ 105 ∷ [], table (65 ∷ 66 ∷ 67 ∷ []) (2 ∷ 3 ∷ []), table (68 ∷ []) (0 ∷ 1 ∷ []))
    (camera_bytes 5 2, light_bytes 6, shadow_bytes 7 2, fours (9 ∷ []) ++ (2 ∷ []) ++ u1 ++ ik_bytes 69 88 0)
    (1 ∷ 0 ∷ [], 3 ∷ 70000 ∷ [], 11 ∷ 12 ∷ 13 ∷ 51 ∷ 52 ∷ 53 ∷ [], 14 ∷ 15 ∷ 16 ∷ 17 ∷ 54 ∷ 55 ∷ 56 ∷ 57 ∷ [], replicate 64 67 ++ replicate 64 58)
    (1 ∷ [], 4 ∷ [], 18 ∷ [])

-- the take that is read back from the file built
pub some_built : and_then (build some) (read_take lenient) ≡ given (record {
  model = 77 ∷ 105 ∷ [];
  bones =
      bone_said 67 3
      ∷ record { name = 65 ∷ 66 ∷ []; frame = 70000; tx = 51; ty = 52; tz = 53; rx = 54; ry = 55; rz = 56; rw = 57; interpolation = replicate 64 58 } ∷ [];
  morphs = morph_said 68 4 ∷ [];
  cameras = camera_said 5 false ∷ [];
  lights = light_said 6 ∷ [];
  self_shadows = shadow_said 7 2 ∷ [];
  properties = record { frame = 9; visible = true; ik_states = ik_said 69 false ∷ [] } ∷ [];
})
unfolding computed
some_built = refl

-- 74 + 111 * 2 + 23 + 61 + 28 + 9 + 9 + 21
pub some_length : T (eqb (length (bytes_of (build some))) 447)
unfolding computed
some_length = tt

-- ---- what is turned down

-- parts of names alone, of records alone, of bones and of morphs with the name "A" alone
abbrev names_refused : Names → ℕ → Bool
names_refused n k = declines (build (parts n no_records no_bones no_morphs)) k

abbrev records_refused : Records → ℕ → Bool
records_refused r k = declines (build (parts nameless r no_bones no_morphs)) k

abbrev bones_refused : Bones → ℕ → Bool
bones_refused b k = declines (build (parts ([], a_name, no_names) no_records b no_morphs)) k

abbrev morphs_refused : Morphs → ℕ → Bool
morphs_refused m k = declines (build (parts ([], no_names, a_name) no_records no_bones m)) k

-- name ends that fall, that stop short, and that are missing; record bytes over; properties cut, with a byte over, and with an IK state cut
pub five : T (
    names_refused ([], table (65 ∷ 66 ∷ []) (2 ∷ 1 ∷ 2 ∷ []), no_names) 5
    && names_refused ([], no_names, table (65 ∷ 66 ∷ []) (1 ∷ [])) 5
    && names_refused ([], table (65 ∷ []) [], no_names) 5
    && records_refused (replicate 62 0, [], [], []) 5
    && records_refused ([], replicate 27 0, [], []) 5
    && records_refused ([], [], replicate 8 0, []) 5
    && records_refused ([], [], [], replicate 8 0) 5
    && records_refused ([], [], [], replicate 10 0) 5
    && records_refused ([], [], [], replicate 5 0 ++ u1 ++ replicate 20 0) 5)
unfolding computed
five = tt

-- a model name of 21 bytes, a table name of 16, and a zero byte in a name
pub six : T (
    names_refused (replicate 21 65, no_names, no_names) 6
    && names_refused ([], table (replicate 16 65) (16 ∷ []), no_names) 6
    && names_refused ([], no_names, table (65 ∷ 0 ∷ []) (2 ∷ [])) 6)
unfolding computed
six = tt

-- a model name of 20 bytes and a table name of 15 are accepted
pub full_names : T (eqb (length (bytes_of (build (parts (replicate 20 65, table (replicate 15 65) (15 ∷ []), no_names) no_records no_bones no_morphs)))) 74)
unfolding computed
full_names = tt

-- infinity as bytes, and records with one fault each
abbrev infinite : List ℕ
infinite = 0 ∷ 0 ∷ 0x80 ∷ 0x7F ∷ []

abbrev bad_camera : List ℕ
bad_camera = replicate 4 0 ++ infinite ++ replicate 53 0

abbrev bad_light : List ℕ
bad_light = replicate 24 0 ++ infinite

abbrev bad_shadow : List ℕ
bad_shadow = replicate 5 0 ++ infinite

abbrev bad_property : List ℕ
bad_property = replicate 5 0 ++ u1 ++ (0x83 ∷ replicate 20 0)

-- a lead with no trail in a model name, a bone name, a morph name and an IK name
pub seven : T (
    names_refused (0x83 ∷ [], no_names, no_names) 7
    && names_refused ([], table (0x83 ∷ []) (1 ∷ []), no_names) 7
    && names_refused ([], no_names, table (0x83 ∷ []) (1 ∷ [])) 7
    && records_refused ([], [], [], bad_property) 7)
unfolding computed
seven = tt

-- whether 7 is given for a pair in a model name, a bone name, a morph name and an IK name
abbrev paired : ℕ → ℕ → List Bool
paired a b =
    let pair = table (a ∷ b ∷ []) (2 ∷ []) in
    names_refused (a ∷ b ∷ [], no_names, no_names) 7
    ∷ names_refused ([], pair, no_names) 7
    ∷ names_refused ([], no_names, pair) 7
    ∷ records_refused ([], [], [], replicate 5 0 ++ u1 ++ (a ∷ b ∷ []) ++ replicate 19 0) 7
    ∷ []

-- a pair without a character, and one with a character (02 h)
pub no_character : (paired 0x85 0x40 ≡ replicate 4 true) × (paired 0x83 0x41 ≡ replicate 4 false)
unfolding computed
no_character = (refl, refl)

-- one bone with this name index and this translation
abbrev one_bone : ℕ → List ℕ → Bones
one_bone i t = (i ∷ [], 0 ∷ [], t, replicate 4 0, replicate 64 0)

-- a camera, a light, a bone's translation and rotation and a morph at the infinities and at a NaN
pub eight : T (
    records_refused (bad_camera, [], [], []) 8
    && records_refused ([], bad_light, [], []) 8
    && bones_refused (one_bone 0 (0 ∷ 0 ∷ 0xFF800000 ∷ [])) 8
    && bones_refused (0 ∷ [], 0 ∷ [], replicate 3 0, 0 ∷ 0 ∷ 0 ∷ 0x7FC00000 ∷ [], replicate 64 0) 8
    && morphs_refused (0 ∷ [], 0 ∷ [], 0x7F800000 ∷ []) 8)
unfolding computed
eight = tt

-- n zero bytes but for an infinite number k, counted in fours; n zeros but for an infinite one, number k
abbrev infinite_at : ℕ → ℕ → List ℕ
infinite_at n k = take n (replicate (4 * k) 0 ++ infinite ++ replicate n 0)

abbrev infinite_in : ℕ → ℕ → List ℕ
infinite_in n k = take n (replicate k 0 ++ (0x7F800000 ∷ replicate n 0))

-- every float of a camera, of a light and of the second of two bones
pub every_float : T (
    every 7 (λ k. records_refused (infinite_at 61 (1 + k), [], [], []) 8)
    && every 6 (λ k. records_refused ([], infinite_at 28 (1 + k), [], []) 8)
    && every 3 (λ k. bones_refused (0 ∷ 0 ∷ [], 0 ∷ 0 ∷ [], infinite_in 6 (3 + k), replicate 8 0, replicate 128 0) 8)
    && every 4 (λ k. bones_refused (0 ∷ 0 ∷ [], 0 ∷ 0 ∷ [], replicate 6 0, infinite_in 8 (4 + k), replicate 128 0) 8))
unfolding computed
every_float = tt

-- the largest finite float is accepted, and so are a frame, interpolation bytes and a field of view of infinity's bits
pub accepted_bits : T (
    eqb (length (bytes_of (build (parts nameless (replicate 4 0 ++ (0xFF ∷ 0xFF ∷ 0x7F ∷ 0x7F ∷ []) ++ replicate 53 0, [], [], []) no_bones no_morphs)))) 135
    && eqb (length (bytes_of (build (parts nameless (infinite_at 61 0 ++ infinite_at 61 8 ++ infinite_at 61 14, [], [], []) no_bones no_morphs)))) 257)
unfolding computed
accepted_bits = tt

-- an infinite distance, and mode 3
pub nine : T (records_refused ([], [], bad_shadow, []) 9 && records_refused ([], [], shadow_bytes 1 3, []) 9)
unfolding computed
nine = tt

-- one column longer or shorter than the others
pub ten : T (
    bones_refused (0 ∷ [], [], replicate 3 0, replicate 4 0, replicate 64 0) 10
    && bones_refused (one_bone 0 (replicate 2 0)) 10
    && bones_refused (0 ∷ [], 0 ∷ [], replicate 3 0, replicate 5 0, replicate 64 0) 10
    && bones_refused (0 ∷ [], 0 ∷ [], replicate 3 0, replicate 4 0, replicate 63 0) 10
    && morphs_refused (0 ∷ [], 0 ∷ 0 ∷ [], 0 ∷ []) 10
    && morphs_refused (0 ∷ [], 0 ∷ [], []) 10)
unfolding computed
ten = tt

-- where one check passes and the next fails, that is the refusal, whatever comes after
second_fault : (c d e : Check) {k : Refusal} (t : Take) → c ≡ passes → d ≡ fails k → built (c next d next e) t ≡ declined k
unfolding computed
second_fault c d e t h g = rw h (rw g refl)

-- more bones than 4,294,967,295, where the columns agree: 11, after 10 and before 12 and 8
pub eleven :
    (b : Bones) → columns_check (parts nameless no_records b no_morphs) ≡ passes → leb (length b.0) 4294967295 ≡ false
    → build (parts nameless no_records b no_morphs) ≡ declined count_too_large
unfolding computed
eleven b h g =
    let p = parts nameless no_records b no_morphs in
    second_fault (columns_check p) (counts_check p) (each (bone_check p) (upto 0 (length b.0)) next passes) (take_of_parts p) h (rw g refl)

-- a name index as large as the table
pub twelve : T (bones_refused (one_bone 1 (replicate 3 0)) 12 && morphs_refused (1 ∷ [], 0 ∷ [], 0 ∷ []) 12)
unfolding computed
twelve = tt

-- ---- their order

-- with two faults, the one that document 01 names first
pub in_order : T (
    -- 5 before everything
    declines (build (parts (replicate 21 65, no_names, no_names) (bad_camera, bad_light, bad_shadow ++ (0 ∷ []), bad_property) (one_bone 9 []) no_morphs)) 5
    -- model name, bone names, morph names
    && names_refused (0x83 ∷ [], table (0 ∷ []) (1 ∷ []), no_names) 7
    && names_refused ([], table (0x83 ∷ []) (1 ∷ []), table (0 ∷ []) (1 ∷ [])) 7
    -- 7 in name 0 before 6 in name 1, and 6 before 7 in one name
    && names_refused ([], table (0x83 ∷ 0 ∷ []) (1 ∷ 2 ∷ []), no_names) 7
    && names_refused ([], table (0x83 ∷ 0 ∷ []) (2 ∷ []), no_names) 6
    -- names, cameras, lights, self-shadows, IK names, 10
    && declines (build (parts (0x83 ∷ [], no_names, no_names) (bad_camera, [], [], []) no_bones no_morphs)) 7
    && records_refused (bad_camera, [], bad_shadow, []) 8
    && records_refused ([], bad_light, bad_shadow, []) 8
    && records_refused ([], [], bad_shadow, bad_property) 9
    && declines (build (parts nameless ([], [], [], bad_property) (one_bone 0 []) no_morphs)) 7
    -- 10 before 12, and 12 before 8 in one bone or morph
    && bones_refused (one_bone 1 []) 10
    && bones_refused (one_bone 1 (0x7F800000 ∷ 0 ∷ 0 ∷ [])) 12
    && morphs_refused (1 ∷ [], 0 ∷ [], 0x7F800000 ∷ []) 12
    -- 8 in bone 0 before 12 in bone 1, and bones before morphs
    && bones_refused (0 ∷ 1 ∷ [], 0 ∷ 0 ∷ [], 0x7F800000 ∷ replicate 5 0, replicate 8 0, replicate 128 0) 8
    && declines (build (parts ([], a_name, a_name) no_records (one_bone 0 (0x7F800000 ∷ 0 ∷ 0 ∷ [])) (1 ∷ [], 0 ∷ [], 0 ∷ []))) 8
    -- 13 last
    && declines (fitted 446 (build some)) 13
    && declines (fitted 0 (build (parts nameless no_records no_bones (1 ∷ [], 0 ∷ [], 0 ∷ [])))) 12)
unfolding computed
in_order = tt
