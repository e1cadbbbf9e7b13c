-- The two manners of reading (02 i): files that only the lenient one accepts, files that both do, and what is met first.
use Rattle.std.specs.Prelude.{ℕ, Bool, ◌&&◌, List, [], ◌∷◌, ◌++◌, take, replicate, T}
use Rattle.vmd_format.specs.Answer.{fitted, left}
use Rattle.vmd_format.specs.Read.{strict, lenient}
use Rattle.vmd_format.specs.Take.{same}
use Rattle.vmd_format.specs.Opening.{open_file, scratch_after}
use Rattle.vmd_format.specs.Join.{export_file, older_file, join_files}
use Rattle.vmd_format.specs.Computed.{computed, declines, bytes_of, start, older_start, fours, u0, u1, light_bytes, shadow_bytes, ik_bytes, one_each_after}

-- refused with this number in the strict manner, and exported by the lenient one as these bytes
abbrev only_lenient : List ℕ → ℕ → List ℕ → Bool
only_lenient s n t = declines (export_file strict s) n && same (bytes_of (export_file lenient s)) t

-- refused with this number in both
abbrev both_refuse : List ℕ → ℕ → Bool
both_refuse s n = declines (export_file strict s) n && declines (export_file lenient s) n

-- exported as these bytes by both
abbrev both_export : List ℕ → List ℕ → Bool
both_export s t = same (bytes_of (export_file strict s)) t && same (bytes_of (export_file lenient s)) t

-- the sections after a header of either edition; the canonical file has the newer header
abbrev in_both : (List ℕ → List ℕ → Bool) → List ℕ → List ℕ → Bool
in_both holds s t = holds (start ++ s) (start ++ t) && holds (older_start ++ s) (start ++ t)

-- n counts of 0
abbrev zeros : ℕ → List ℕ
zeros n = replicate n 0 ++ replicate n 0 ++ replicate n 0 ++ replicate n 0

-- a property frame with one IK state
abbrev leg : List ℕ
leg = fours (9 ∷ []) ++ (1 ∷ []) ++ u1 ++ ik_bytes 67 0 1

-- start,0,0,1; and an oversized camera, light and self-shadow count, two where there is one record, with sections after it that
-- the lenient manner loses
pub oversized_told : T (
    in_both (λ s t. only_lenient s 17 t) (zeros 2 ++ u1) (zeros 6)
    && in_both (λ s t. only_lenient s 17 t) (zeros 2 ++ fours (2 ∷ []) ++ replicate 61 0 ++ zeros 2 ++ u1 ++ leg) (zeros 6)
    && in_both (λ s t. only_lenient s 17 t) (zeros 3 ++ fours (2 ∷ []) ++ light_bytes 9 ++ u0) (zeros 6)
    && in_both (λ s t. only_lenient s 17 t) (zeros 4 ++ fours (2 ∷ []) ++ shadow_bytes 9 1 ++ u0) (zeros 6)
    && in_both (λ s t. only_lenient s 17 t) (zeros 4 ++ (255 ∷ 255 ∷ 255 ∷ 255 ∷ [])) (zeros 6))
unfolding computed
oversized_told = tt

-- one byte over, a zero too, and more of them, after the count of 0 and after the last property frame
pub over_told : T (
    in_both (λ s t. only_lenient s 16 t) (zeros 6 ++ (0 ∷ [])) (zeros 6)
    && in_both (λ s t. only_lenient s 16 t) (zeros 6 ++ (7 ∷ 8 ∷ 9 ∷ [])) (zeros 6)
    && in_both (λ s t. only_lenient s 16 t) (zeros 7) (zeros 6)
    && in_both (λ s t. only_lenient s 16 t) (zeros 5 ++ u1 ++ leg ++ (0 ∷ [])) (zeros 5 ++ u1 ++ leg)
    && in_both (λ s t. only_lenient s 16 t) (zeros 5 ++ u1 ++ leg ++ leg) (zeros 5 ++ u1 ++ leg))
unfolding computed
over_told = tt

-- a missing section is accepted in both, wherever the file ends; and so are six sections with a record in each
pub missing_told : T (
    in_both both_export (zeros 1) (zeros 6)
    && in_both both_export (zeros 2) (zeros 6)
    && in_both both_export (zeros 3) (zeros 6)
    && in_both both_export (zeros 4) (zeros 6)
    && in_both both_export (zeros 5) (zeros 6)
    && in_both both_export (zeros 5 ++ u1 ++ leg) (zeros 5 ++ u1 ++ leg)
    && in_both both_export (one_each_after 1 2 3 4 5 6) (one_each_after 1 2 3 4 5 6))
unfolding computed
missing_told = tt

-- "both as met in the file": a 1 that is met first is 1, of a bone, morph, property or IK count and of a frame that is cut,
-- also where bytes are left; an oversized count comes before whatever is after it
pub as_met : T (
    both_refuse (start ++ u1 ++ zeros 6) 1
    && both_refuse (start ++ u0 ++ u1 ++ zeros 4) 1
    && both_refuse (start ++ zeros 5 ++ u1 ++ zeros 2) 1
    && both_refuse (start ++ zeros 5 ++ fours (2 ∷ []) ++ leg ++ replicate 8 0) 1
    && both_refuse (start ++ zeros 5 ++ u1 ++ replicate 5 0 ++ u1 ++ replicate 20 0) 1
    && both_refuse (start ++ zeros 4 ++ replicate 3 0) 1
    && both_refuse (take 49 start ++ (1 ∷ [])) 1
    && both_refuse (replicate 90 65) 2
    && only_lenient (start ++ zeros 2 ++ u1 ++ u1 ++ replicate 3 0) 17 (start ++ zeros 6)
    && only_lenient (start ++ zeros 3 ++ u1 ++ zeros 5 ++ replicate 3 0) 17 (start ++ zeros 6))
unfolding computed
as_met = tt

-- a take of no records, one with a byte over and one with an oversized count; and one that ends early
abbrev fine : List ℕ
fine = start ++ zeros 6

abbrev over : List ℕ
over = fine ++ (5 ∷ [])

abbrev oversized : List ℕ
oversized = start ++ zeros 2 ++ u1

-- in joining all of the first file's before any of the second's
pub first_file_first : T (
    declines (join_files strict over oversized) 16
    && declines (join_files strict oversized over) 17
    && declines (join_files strict fine over) 16
    && declines (join_files strict fine oversized) 17
    && declines (join_files strict over start) 16
    && declines (join_files strict oversized (replicate 30 65)) 17
    && declines (join_files strict start over) 1
    && declines (join_files strict (replicate 30 65) oversized) 2
    && same (bytes_of (join_files lenient over oversized)) fine
    && same (bytes_of (join_files strict fine fine)) fine)
unfolding computed
first_file_first = tt

-- a take of a property frame and a model name of 11 bytes, with a byte over: 16 before 3, 13 and 15, and what was lent is as it
-- was
abbrev named : List ℕ
named = take 30 start ++ replicate 11 65 ++ replicate 9 0 ++ zeros 5 ++ u1 ++ leg ++ (5 ∷ [])

pub before_the_others : T (
    declines (open_file strict named 0) 16
    && declines (open_file lenient named 0) 3
    && declines (older_file strict named) 16
    && declines (older_file lenient named) 15
    && declines (fitted 0 (export_file strict named)) 16
    && declines (fitted 0 (export_file lenient named)) 13
    && same (scratch_after strict named (7 ∷ 6 ∷ [])) (7 ∷ 6 ∷ [])
    && same (scratch_after lenient named (7 ∷ 6 ∷ [])) (74 ∷ 6 ∷ [])
    && same (left (replicate 200 9) (fitted 200 (export_file strict named))) (replicate 200 9))
unfolding computed
before_the_others = tt
