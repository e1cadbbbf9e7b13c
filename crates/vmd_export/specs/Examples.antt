-- What export, the converter and joining answer and leave in an output, of takes that are written out: an output that is longer
-- keeps its tail, one that is a byte short is refused and kept, and what a refused file leaves.
use Rattle.std.specs.Prelude.{ℕ, ◌-◌, ◌≡◌, refl, List, [], ◌∷◌, ◌++◌, take, replicate, Ok, Err}
use Rattle.vmd_format.specs.Refusal.{file_ends_early, magic_differs, output_too_short, model_name_too_long, bytes_over, count_oversized}
use Rattle.vmd_format.specs.Answer.{declined, given}
use Rattle.vmd_format.specs.Read.{strict, lenient}
use Rattle.vmd_format.specs.Computed.{computed, start, older_start, fours, u0, u1, morph_bytes}
use Rattle.vmd_base.specs.declared.VmdRefusal.TheVariants.{OutputTooShort}
use Rattle.vmd_base.specs.Meaning.{answer_of}
use Rattle.vmd_export.specs.Saved.{exported_answer, exported_output, older_answer, older_output, joined_answer, joined_output, export_size, older_size, join_size}

-- a take of one morph under a letter, with bytes after its name, and as it is written
abbrev morph_take : ℕ → ℕ → List ℕ
morph_take c j = start ++ u0 ++ u1 ++ morph_bytes c j 9

abbrev written : List ℕ → List ℕ
written morphs = start ++ u0 ++ morphs ++ u0 ++ u0 ++ u0 ++ u0

-- a take without records, under a name of n letters
abbrev long_name : ℕ → List ℕ
long_name n = take 30 start ++ replicate n 65 ++ replicate (20 - n) 0 ++ u0

-- 97 bytes into an output of 99
pub exported_whole :
    (exported_answer lenient (morph_take 66 88) (replicate 99 7) ≡ given 97)
    × (exported_output lenient (morph_take 66 88) (replicate 99 7) ≡ written (u1 ++ morph_bytes 66 0 9) ++ (7 ∷ 7 ∷ []))
    × (export_size lenient (morph_take 66 88) ≡ given 97)
unfolding computed
exported_whole = (refl, refl, refl)

-- an output of 96, and a file that ends early
pub export_refused :
    (exported_answer lenient (morph_take 66 88) (replicate 96 7) ≡ declined output_too_short)
    × (exported_output lenient (morph_take 66 88) (replicate 96 7) ≡ replicate 96 7)
    × (exported_answer lenient start (replicate 96 7) ≡ declined file_ends_early)
    × (exported_output lenient start (replicate 96 7) ≡ replicate 96 7)
    × (export_size lenient start ≡ declined file_ends_early)
unfolding computed
export_refused = (refl, refl, refl, refl, refl)

-- the same in the older edition: 87 bytes into an output of 88
pub older_whole :
    (older_answer lenient (morph_take 66 88) (replicate 88 7) ≡ given 87)
    × (older_output lenient (morph_take 66 88) (replicate 88 7)
    ≡ older_start ++ u0 ++ u1 ++ morph_bytes 66 0 9 ++ u0 ++ u0 ++ u0 ++ u0 ++ (7 ∷ []))
    × (older_size lenient (morph_take 66 88) ≡ given 87)
unfolding computed
older_whole = (refl, refl, refl)

-- 1 before 15, and 15 before 13; ten letters fit
pub older_refused :
    (older_answer lenient (take 53 (long_name 11)) [] ≡ declined file_ends_early)
    × (older_answer lenient (long_name 11) [] ≡ declined model_name_too_long)
    × (older_output lenient (long_name 11) (replicate 64 7) ≡ replicate 64 7)
    × (older_size lenient (long_name 11) ≡ declined model_name_too_long)
    × (older_answer lenient (long_name 10) (replicate 63 7) ≡ declined output_too_short)
    × (older_output lenient (long_name 10) (replicate 63 7) ≡ replicate 63 7)
    × (older_answer lenient (long_name 10) (replicate 64 7) ≡ given 64)
    × (older_size lenient (long_name 20) ≡ declined model_name_too_long)
unfolding computed
older_refused = (refl, refl, refl, refl, refl, refl, refl, refl)

-- 120 bytes into an output of 121: the first file's records, then the second's
pub joined_whole :
    (joined_answer lenient (morph_take 66 88) (morph_take 67 89) (replicate 121 7) ≡ given 120)
    × (joined_output lenient (morph_take 66 88) (morph_take 67 89) (replicate 121 7)
    ≡ written (fours (2 ∷ []) ++ morph_bytes 66 0 9 ++ morph_bytes 67 0 9) ++ (7 ∷ []))
    × (join_size lenient (morph_take 66 88) (morph_take 67 89) ≡ given 120)
unfolding computed
joined_whole = (refl, refl, refl)

-- the first file's refusal before the second's, and both before the output's
pub join_refused :
    (joined_answer lenient (replicate 30 65) start [] ≡ declined magic_differs)
    × (joined_answer lenient (start ++ u0) start [] ≡ declined file_ends_early)
    × (joined_answer lenient (start ++ u0) (start ++ u0) (replicate 73 7) ≡ declined output_too_short)
    × (joined_output lenient (start ++ u0) (start ++ u0) (replicate 73 7) ≡ replicate 73 7)
    × (join_size lenient (start ++ u0) (replicate 30 65) ≡ declined magic_differs)
unfolding computed
join_refused = (refl, refl, refl, refl, refl)

-- what an answer of the code says
pub answers : (answer_of {A = ℕ} (Ok 74) ≡ given 74) × (answer_of {A = ℕ} (Err OutputTooShort) ≡ declined output_too_short)
answers = (refl, refl)

-- ---- the two manners (02 i)

-- bytes over and an oversized count: 16 and 17 before 13 and 15, and the output is as it was
pub strict_refused :
    (exported_answer strict (written u0 ++ (0 ∷ [])) (replicate 76 7) ≡ declined bytes_over)
    × (exported_output strict (written u0 ++ (0 ∷ [])) (replicate 76 7) ≡ replicate 76 7)
    × (export_size strict (written u0 ++ (0 ∷ [])) ≡ declined bytes_over)
    × (exported_answer strict (start ++ u0 ++ u0 ++ u1) [] ≡ declined count_oversized)
    × (older_answer strict (long_name 11 ++ u0 ++ u1) [] ≡ declined count_oversized)
    × (older_output strict (long_name 11 ++ u0 ++ u1) (replicate 64 7) ≡ replicate 64 7)
    × (older_size strict (long_name 11 ++ u0 ++ u1) ≡ declined count_oversized)
    × (joined_answer strict (written u0) (start ++ u0 ++ u0 ++ u1) (replicate 76 7) ≡ declined count_oversized)
    × (joined_output strict (written u0) (start ++ u0 ++ u0 ++ u1) (replicate 76 7) ≡ replicate 76 7)
    × (join_size strict (written u0 ++ (0 ∷ [])) start ≡ declined bytes_over)
unfolding computed
strict_refused = (refl, refl, refl, refl, refl, refl, refl, refl, refl, refl)

-- the lenient manner saves them without what was over, and without the section and all after it
pub lenient_saved :
    (exported_output lenient (written u0 ++ (0 ∷ [])) (replicate 76 7) ≡ written u0 ++ (7 ∷ 7 ∷ []))
    × (exported_output lenient (start ++ u0 ++ u0 ++ u1) (replicate 76 7) ≡ written u0 ++ (7 ∷ 7 ∷ []))
    × (joined_output lenient (written u0 ++ (0 ∷ [])) (start ++ u0 ++ u0 ++ u1) (replicate 76 7) ≡ written u0 ++ (7 ∷ 7 ∷ []))
unfolding computed
lenient_saved = (refl, refl, refl)

-- what the strict manner accepts it saves as the lenient one does
pub strict_saved :
    (exported_answer strict (morph_take 66 88) (replicate 99 7) ≡ given 97)
    × (exported_output strict (morph_take 66 88) (replicate 99 7) ≡ written (u1 ++ morph_bytes 66 0 9) ++ (7 ∷ 7 ∷ []))
    × (older_size strict (morph_take 66 88) ≡ given 87)
    × (joined_answer strict (morph_take 66 88) (morph_take 67 89) (replicate 121 7) ≡ given 120)
unfolding computed
strict_saved = (refl, refl, refl, refl)
