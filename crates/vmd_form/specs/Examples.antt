-- Canonical files, and files with one change at each kind of place, computed in both manners.
use Rattle.std.specs.Prelude.{ℕ, Bool, true, false, ◌&&◌, List, [], ◌∷◌, ◌++◌, T, eqb, take, set, replicate}
use Rattle.vmd_format.specs.Answer.{Answer, declined, given}
use Rattle.vmd_format.specs.Read.{strict, lenient}
use Rattle.vmd_format.specs.Computed.{computed, declines, start, older_start, older_text, text, u0, u1, one_each, one_each_after}
use Rattle.vmd_form.specs.Canonical.{canonical, Change, nowhere, at_place, change_if, change_from, first_change}

-- unfolding this and `computed` unfolds what is computed here
unfoldable form_computed : Unit {0}
unfolding canonical change_if change_from first_change
form_computed = tt

abbrev is_yes : Answer Bool → Answer Change → Bool
is_yes (given true) (given nowhere) = true
is_yes (given true) (given (at_place n)) = false
is_yes (given true) (declined k) = false
is_yes (given false) c = false
is_yes (declined k) c = false

abbrev is_no : ℕ → Answer Bool → Answer Change → Bool
is_no n (given false) (given (at_place k)) = eqb k n
is_no n (given false) (given nowhere) = false
is_no n (given false) (declined k) = false
is_no n (given true) c = false
is_no n (declined k) c = false

-- canonical in both manners
abbrev yes : List ℕ → Bool
yes s = is_yes (canonical strict s) (first_change strict s) && is_yes (canonical lenient s) (first_change lenient s)

-- touched at this place first, in both
abbrev no_at : ℕ → List ℕ → Bool
no_at n s = is_no n (canonical strict s) (first_change strict s) && is_no n (canonical lenient s) (first_change lenient s)

-- refused with this number in the strict manner, and touched at this place first in the lenient one
abbrev lenient_at : ℕ → ℕ → List ℕ → Bool
lenient_at k n s = declines (canonical strict s) k && declines (first_change strict s) k && is_no n (canonical lenient s) (first_change lenient s)

-- refused with this number in both
abbrev refuses : ℕ → List ℕ → Bool
refuses k s = declines (canonical strict s) k && declines (first_change strict s) k && declines (canonical lenient s) k && declines (first_change lenient s) k

-- 336 bytes: the name field at 30; the bone at 54, the morph at 169, the camera's perspective byte at 256, the self-shadow's mode
-- at 297; the property frame at 306, its visible byte at 310, its IK state's name at 315 and enabled byte at 335
abbrev take_of_six : List ℕ
take_of_six = one_each (77 ∷ replicate 19 0) 1 2 3 4 5 6

-- that file with another byte at a place
abbrev with : ℕ → ℕ → List ℕ
with i b = set take_of_six i b

-- start, and six counts of 0
abbrev bare : List ℕ
bare = start ++ replicate 24 0

pub canonical_told : T (
    yes bare && yes take_of_six
    -- each flag at its other value; a byte that belongs to a name; a mode
    && yes (with 256 0) && yes (with 310 0) && yes (with 335 0) && yes (with 31 78) && yes (with 55 66) && yes (with 316 68) && yes (with 297 255)
    -- names that fill their field
    && yes (text ++ replicate 4 0 ++ replicate 20 65 ++ u1 ++ replicate 111 66 ++ replicate 20 0))
unfolding computed form_computed
canonical_told = tt

-- bytes 26 to 29; the model's name, the bone's, the morph's and the IK state's, with a byte after their end and in the field's last
pub bytes_told : T (
    no_at 26 (with 26 1) && no_at 29 (with 29 255)
    && no_at 32 (with 32 9) && no_at 49 (with 49 9) && no_at 56 (with 56 9) && no_at 68 (with 68 9)
    && no_at 171 (with 171 9) && no_at 183 (with 183 9) && no_at 317 (with 317 9) && no_at 334 (with 334 9))
unfolding computed form_computed
bytes_told = tt

-- perspective, visible and enabled
pub flags_told : T (
    no_at 256 (with 256 2) && no_at 256 (with 256 255) && no_at 310 (with 310 2) && no_at 310 (with 310 128) && no_at 335 (with 335 2) && no_at 335 (with 335 255))
unfolding computed form_computed
flags_told = tt

-- each count but the bones' missing: the file has ended there
pub counts_told : T (
    no_at 54 (take 54 bare) && no_at 70 (take 70 bare) && no_at 165 (take 165 take_of_six) && no_at 192 (take 192 take_of_six)
    && no_at 257 (take 257 take_of_six) && no_at 289 (take 289 take_of_six) && no_at 302 (take 302 take_of_six))
unfolding computed form_computed
counts_told = tt

-- an oversized count, at its first byte that is not zero, which the lenient manner takes for 0; and bytes over, a zero too
pub lenient_told : T (
    lenient_at 17 58 (start ++ u0 ++ u0 ++ u1) && lenient_at 17 61 (start ++ u0 ++ u0 ++ (0 ∷ 0 ∷ 0 ∷ 1 ∷ []))
    && lenient_at 17 192 (with 192 3) && lenient_at 17 257 (with 257 3) && lenient_at 17 289 (with 289 9)
    && lenient_at 16 74 (bare ++ (0 ∷ [])) && lenient_at 16 336 (take_of_six ++ (7 ∷ 8 ∷ [])) && lenient_at 16 26 (with 26 3 ++ (0 ∷ [])))
unfolding computed form_computed
lenient_told = tt

-- every older file at 21, whatever else stands in it
pub older_told : T (
    no_at 21 (older_start ++ replicate 24 0) && no_at 21 (older_start ++ u0)
    && no_at 21 (older_text ++ (1 ∷ 2 ∷ 3 ∷ 4 ∷ 77 ∷ 0 ∷ replicate 8 9) ++ one_each_after 1 2 3 4 5 6))
unfolding computed form_computed
older_told = tt

-- the earlier of two changes; and a refusal before any change: byte 26 not zero and the bones cut is 1
pub first_told : T (
    no_at 29 (set (with 310 2) 29 1) && no_at 256 (set (with 335 2) 256 2)
    && refuses 1 (take 100 (with 26 1)) && refuses 1 (take 335 (with 26 1)) && refuses 1 (take 29 bare) && refuses 2 (replicate 30 65) && refuses 1 start)
unfolding computed form_computed
first_told = tt
