-- Parts out of a file that is written out: the tables, indices and canonical records, what the buffers hold at exit, each refusal,
-- and building from the parts.
use Rattle.std.specs.Prelude.{ℕ, zero, suc, ◌+◌, ◌-◌, ◌≡◌, refl, Bool, true, false, List, [], ◌∷◌, ◌++◌, replicate, T, eqb}
use Rattle.vmd_format.specs.Answer.{given, and_then}
use Rattle.vmd_format.specs.Read.{strict, lenient}
use Rattle.vmd_format.specs.Records.{Morph}
use Rattle.vmd_format.specs.Take.{Take, read_take}
use Rattle.vmd_format.specs.Join.{export_file}
use Rattle.vmd_format.specs.Parts.{Parts, build}
use Rattle.vmd_format.specs.Computed.{computed, declines, start, fours, u0, u1, bone_bytes, morph_bytes, camera_bytes, light_bytes, shadow_bytes, ik_bytes, every}
use Rattle.vmd_keys.specs.Names.{keep_if, select, distinct, bone_names_of, morph_names_of}
use Rattle.vmd_tables.specs.Tables.{joined, ends_from, table_of_names, index_if, index_of, name_table, name_indices}
use Rattle.vmd_take_parts.specs.Split.{translation, rotation, parts_of_take, table_within, table_fits, bones_fit, morphs_fit, records_fit, parts_fit, split, TableSizes, table_sizes, split_answer, parts_left, buffers, split_sizes}
use Rattle.vmd_take_parts.proofs.Given.{by_field, fronts, tails}

-- unfolding this and `computed` unfolds the definitions of parts
unfoldable parts_computed : Unit {0}
unfolding keep_if select distinct joined ends_from table_of_names index_if index_of name_table name_indices bone_names_of morph_names_of translation rotation parts_of_take table_within table_fits bones_fit morphs_fit records_fit parts_fit split table_sizes split_answer parts_left split_sizes
parts_computed = tt

-- five bones "A", "B", "A", "" and "B", with bytes after their names' ends; two morphs "B"; a camera with perspective byte 2, a
-- light, a self-shadow of mode m, and a property frame with visible byte 2 and two IK states
abbrev file : ℕ → List ℕ
file m =
    start ++ fours (5 ∷ []) ++ bone_bytes 65 1 3 ++ bone_bytes 66 2 1 ++ bone_bytes 65 7 2 ++ bone_bytes 0 9 4 ++ bone_bytes 66 0 0
    ++ fours (2 ∷ []) ++ morph_bytes 66 8 1 ++ morph_bytes 66 9 2 ++ u1 ++ camera_bytes 5 2 ++ u1 ++ light_bytes 6
    ++ u1 ++ shadow_bytes 7 m ++ u1 ++ fours (9 ∷ []) ++ (2 ∷ []) ++ fours (2 ∷ []) ++ ik_bytes 69 88 3 ++ ik_bytes 70 0 0

-- 02 k), "parts out of a take still tell raw names apart": "A" with the remarks "x" and "y"
abbrev remarks : Take
remarks =
    let morph : List ℕ → Morph = λ n. record { name = n; frame = 1; weight = 2 } in record {
      model = [];
      bones = [];
      morphs = morph (65 ∷ []) ∷ morph (65 ∷ 10 ∷ 120 ∷ []) ∷ morph (65 ∷ 10 ∷ 121 ∷ []) ∷ morph (65 ∷ 10 ∷ 120 ∷ []) ∷ [];
      cameras = [];
      lights = [];
      self_shadows = [];
      properties = [];
    }

pub remarks_told :
    ((parts_of_take remarks).morph_names ≡ record { bytes = 65 ∷ 65 ∷ 10 ∷ 120 ∷ 65 ∷ 10 ∷ 121 ∷ []; ends = 1 ∷ 4 ∷ 7 ∷ [] })
    × ((parts_of_take remarks).morph_name_indices ≡ 0 ∷ 1 ∷ 2 ∷ 1 ∷ [])
unfolding computed parts_computed
remarks_told = (refl, refl)

-- a value so many times
abbrev times : ℕ → List ℕ → List ℕ
times zero l = []
times (suc n) l = l ++ times n l

-- the two tables, the indices, and canonical records: names padded with zeros, flags 0 or 1. After each part come k sevens.
abbrev told : ℕ → ℕ → Parts
told m k =
    let over : List ℕ = replicate k 7 in record {
      model = [];
      bone_names = record { bytes = 65 ∷ 66 ∷ over; ends = 1 ∷ 2 ∷ 2 ∷ over };
      morph_names = record { bytes = 66 ∷ over; ends = 1 ∷ over };
      cameras = camera_bytes 5 1 ++ over;
      lights = light_bytes 6 ++ over;
      self_shadows = shadow_bytes 7 m ++ over;
      properties = fours (9 ∷ []) ++ (1 ∷ []) ++ fours (2 ∷ []) ++ ik_bytes 69 0 1 ++ ik_bytes 70 0 0 ++ over;
      bone_name_indices = 0 ∷ 1 ∷ 0 ∷ 2 ∷ 1 ∷ over;
      bone_frames = 3 ∷ 1 ∷ 2 ∷ 4 ∷ 0 ∷ over;
      bone_translations = times 5 (11 ∷ 12 ∷ 13 ∷ []) ++ over;
      bone_rotations = times 5 (14 ∷ 15 ∷ 16 ∷ 17 ∷ []) ++ over;
      bone_interpolations = replicate 64 65 ++ replicate 64 66 ++ replicate 64 65 ++ replicate 64 0 ++ replicate 64 66 ++ over;
      morph_name_indices = 0 ∷ 0 ∷ over;
      morph_frames = 1 ∷ 2 ∷ over;
      morph_weights = 18 ∷ 18 ∷ over;
    }

-- sixteen buffers of sevens: f gives the length of each from its number and its part's length
abbrev sevens : (ℕ → ℕ → ℕ) → Parts
sevens f =
    buffers (replicate (f 0 2) 7) (replicate (f 1 3) 7) (replicate (f 2 1) 7) (replicate (f 3 1) 7) (replicate (f 4 61) 7)
    (replicate (f 5 28) 7) (replicate (f 6 9) 7) (replicate (f 7 51) 7) (replicate (f 8 5) 7) (replicate (f 9 5) 7) (replicate (f 10 15) 7)
    (replicate (f 11 20) 7) (replicate (f 12 320) 7) (replicate (f 13 2) 7) (replicate (f 14 2) 7) (replicate (f 15 2) 7)

-- each k longer than its part, and one of them, number j, one shorter
abbrev longer : ℕ → Parts
longer k = sevens (λ i n. n + k)

abbrev less_if : Bool → ℕ → ℕ
less_if true n = n - 1
less_if false n = n

abbrev shorter : ℕ → Parts
shorter j = sevens (λ i n. less_if (eqb i j) n)

-- three bone names of two bytes, and one morph name of one
abbrev sizes : TableSizes
sizes = record { bone_names = 3; bone_name_bytes = 2; morph_names = 1; morph_name_bytes = 1 }

-- which of a table's two lengths is which number, and of which table
pub sizes_told : table_sizes (sevens (λ i n. i)) ≡ record { bone_names = 1; bone_name_bytes = 0; morph_names = 3; morph_name_bytes = 2 }
unfolding parts_computed
sizes_told = refl

-- which buffer of a call is which of the parts
pub buffers_are :
    buffers (1 ∷ []) (2 ∷ []) (3 ∷ []) (4 ∷ []) (5 ∷ []) (6 ∷ []) (7 ∷ []) (8 ∷ []) (9 ∷ []) (10 ∷ []) (11 ∷ []) (12 ∷ []) (13 ∷ []) (14 ∷ []) (15 ∷ []) (16 ∷ [])
    ≡ record {
      model = [];
      bone_names = record { bytes = 1 ∷ []; ends = 2 ∷ [] };
      morph_names = record { bytes = 3 ∷ []; ends = 4 ∷ [] };
      cameras = 5 ∷ [];
      lights = 6 ∷ [];
      self_shadows = 7 ∷ [];
      properties = 8 ∷ [];
      bone_name_indices = 9 ∷ [];
      bone_frames = 10 ∷ [];
      bone_translations = 11 ∷ [];
      bone_rotations = 12 ∷ [];
      bone_interpolations = 13 ∷ [];
      morph_name_indices = 14 ∷ [];
      morph_frames = 15 ∷ [];
      morph_weights = 16 ∷ [];
    }
buffers_are = refl

pub parts_told :
    (split lenient (file 3) (longer 0) ≡ given (told 3 0))
    × (split_answer lenient (file 3) (longer 0) ≡ given sizes)
    × (split_sizes lenient (file 3) ≡ given sizes)
unfolding computed parts_computed
parts_told = (refl, refl, refl)

-- places past those written keep their contents
pub buffers_told : parts_left (longer 4) (split lenient (file 3) (longer 4)) ≡ told 3 4
unfolding computed parts_computed
buffers_told = refl

-- of buffers as many elements as the parts have, whatever stands there, and the others: of those at entry, and of those at exit
pub fronts_told :
    (fronts (told 3 0) (longer 4) ≡ longer 0) × (tails (told 3 0) (longer 4) ≡ sevens (λ i n. 4))
    × (fronts (told 3 0) (told 3 4) ≡ told 3 0) × (tails (told 3 0) (told 3 4) ≡ sevens (λ i n. 4))
unfolding by_field fronts tails
fronts_told = (refl, refl, refl, refl)

-- any of the buffers one too short; then nothing is written; 1 before 14
pub refused_told :
    T (every 16 (λ j. declines (split lenient (file 3) (shorter j)) 14))
    × (parts_left (shorter 5) (split lenient (file 3) (shorter 5)) ≡ shorter 5)
    × T (declines (split lenient start (shorter 5)) 1)
    × T (declines (split_sizes lenient start) 1)
unfolding computed parts_computed
refused_told = (tt, refl, tt, tt)

-- the builder makes the file's export of the parts, and turns down mode 3
pub built_told :
    (and_then (read_take lenient (file 2)) (λ t. build (parts_of_take t)) ≡ export_file lenient (file 2))
    × T (declines (and_then (read_take lenient (file 3)) (λ t. build (parts_of_take t))) 9)
unfolding computed parts_computed
built_told = (refl, tt)

-- 02 i): 16 and 17 before 14, and nothing is written; what both manners accept is split alike
pub manners_told :
    T (declines (split strict (file 3 ++ (0 ∷ [])) (shorter 5)) 16)
    × (parts_left (longer 4) (split strict (file 3 ++ (0 ∷ [])) (longer 4)) ≡ longer 4)
    × (parts_left (longer 4) (split lenient (file 3 ++ (0 ∷ [])) (longer 4)) ≡ told 3 4)
    × T (declines (split strict (start ++ u0 ++ u0 ++ u1) (shorter 5)) 17)
    × T (declines (split_sizes strict (file 3 ++ (0 ∷ []))) 16)
    × T (declines (split_sizes strict (start ++ u0 ++ u0 ++ u1)) 17)
    × (split strict (file 3) (longer 0) ≡ given (told 3 0))
    × (split_sizes strict (file 3) ≡ given sizes)
unfolding computed parts_computed
manners_told = (tt, refl, refl, tt, tt, tt, refl, refl)
