-- The takes to try of document 01, and those of 02 c and h.
use Rattle.std.specs.Prelude.{ℕ, suc, ◌+◌, ◌-◌, ◌*◌, Bool, true, false, ◌&&◌, not, List, [], ◌∷◌, ◌++◌, length, take, drop, replicate, leb, eqb, T}
use Rattle.vmd_format.specs.Answer.{Answer, declined, given}
use Rattle.vmd_format.specs.Read.{strict, lenient}
use Rattle.vmd_format.specs.Take.{Take, read_take, same}
use Rattle.vmd_format.specs.Opening.{record_count, Opening, joined_smallest, open_file}
use Rattle.vmd_format.specs.Join.{export_file, join_files}
use Rattle.vmd_format.specs.Characters.{pointer, runs}
use Rattle.vmd_format.specs.Names.{fault, good}
use Rattle.vmd_format.specs.Computed.{computed, declines, bytes_of, start, fours, u0, u1, bone_bytes, one_each}

-- the file is refused with this number
abbrev refuses : List ℕ → ℕ → Bool
refuses s n = declines (export_file lenient s) n

-- the file is exported as these bytes
abbrev exports : List ℕ → List ℕ → Bool
exports s t = same (bytes_of (export_file lenient s)) t

-- the file is accepted and has no cameras
abbrev no_cameras : Answer Take → Bool
no_cameras (declined k) = false
no_cameras (given t) = eqb (length t.cameras) 0

-- a file of one camera with this perspective byte, and one of one morph with this name field
abbrev one_camera : ℕ → List ℕ
one_camera p = start ++ u0 ++ u0 ++ u1 ++ replicate 60 0 ++ (p ∷ [])

abbrev one_morph : List ℕ → List ℕ
one_morph n = start ++ u0 ++ u1 ++ n ++ replicate 8 0

-- a file of one bone
abbrev one_bone : List ℕ
one_bone = start ++ u1 ++ bone_bytes 65 0 7 ++ replicate 20 0

-- every take marked P, in document 01's order and in the lenient manner; and 02 i), "The case start,0,0,1 of document 01 is
-- accepted in the lenient manner and is 17 in the strict one"
pub takes : T (
    refuses (replicate 29 65) 1
    && refuses (replicate 30 65) 2
    && refuses start 1
    && exports (start ++ u0) (start ++ replicate 24 0)
    && eqb (length (bytes_of (export_file lenient (start ++ u0)))) 74
    && refuses (start ++ u0 ++ (7 ∷ [])) 1
    && refuses (start ++ u0 ++ u1) 1
    && no_cameras (read_take lenient (start ++ u0 ++ u0 ++ u1))
    && declines (export_file strict (start ++ u0 ++ u0 ++ u1)) 17
    && refuses (start ++ u0 ++ u0 ++ u0 ++ u0 ++ u0 ++ u1) 1
    && exports (one_camera 0) (one_camera 0 ++ u0 ++ u0 ++ u0)
    && exports (one_camera 1) (one_camera 1 ++ u0 ++ u0 ++ u0)
    && exports (one_camera 2) (one_camera 1 ++ u0 ++ u0 ++ u0)
    && same (take 15 (drop 58 (bytes_of (export_file lenient (one_morph (65 ∷ 0 ∷ 66 ∷ replicate 12 0)))))) (65 ∷ replicate 14 0)
    && good (0x83 ∷ 0x41 ∷ [])
    && not (good (0x83 ∷ []))
    && not (good (0x83 ∷ 0x7F ∷ []))
    && not (good (0xA0 ∷ [])))
unfolding computed
takes = tt

-- two one-bone takes of 185 bytes each join to 296
pub two_bones_join : T (eqb (length one_bone) 185 && eqb (length (bytes_of (join_files lenient one_bone one_bone))) 296)
unfolding computed
two_bones_join = tt

-- beside P: too few bytes for a model name, a magic that differs before it, and one to three bytes left at a later count
pub edges : T (
    refuses (take 30 start) 1
    && refuses (take 49 start) 1
    && refuses (replicate 49 65) 2
    && refuses (take 53 (start ++ u0)) 1
    && refuses (start ++ u0 ++ replicate 3 0) 1
    && refuses (start ++ u0 ++ u0 ++ u0 ++ u0 ++ u0 ++ replicate 3 0) 1)
unfolding computed
edges = tt

-- the first and last byte of every range of a good name, and the bytes beside them
pub name_edges : T (
    good []
    && good (0x00 ∷ 0x80 ∷ 0xA1 ∷ 0xDF ∷ [])
    && good (0x81 ∷ 0x40 ∷ 0x9F ∷ 0x7E ∷ 0xE0 ∷ 0x80 ∷ 0xFC ∷ 0x4B ∷ 0x81 ∷ 0xFC ∷ [])
    && not (good (0x81 ∷ []))
    && not (good (0xE0 ∷ []))
    && not (good (0xFD ∷ 0x40 ∷ []))
    && not (good (0xA0 ∷ 0x40 ∷ []))
    && not (good (0x81 ∷ 0x3F ∷ []))
    && not (good (0x81 ∷ 0xFD ∷ []))
    && not (good (0x41 ∷ 0x83 ∷ 0x41 ∷ 0x83 ∷ [])))
unfolding computed
name_edges = tt

-- the pointers of the first and the last pair, and of those beside every gap among leads and trails
pub pointers : T (
    eqb (pointer 0x81 0x40) 0
    && eqb (pointer 0x81 0x7E) 62
    && eqb (pointer 0x81 0x80) 63
    && eqb (pointer 0x81 0xFC) 187
    && eqb (pointer 0x82 0x40) 188
    && eqb (pointer 0x9F 0xFC) 5827
    && eqb (pointer 0xE0 0x40) 5828
    && eqb (pointer 0xFC 0xFC) 11279)
unfolding computed
pointers = tt

-- each run begins past a gap after the one before it, and ends no earlier than it begins
abbrev ascending : ℕ → List (ℕ × ℕ) → Bool
ascending least [] = true
ascending least (r ∷ l) = leb least r.0 && (leb r.0 r.1 && ascending (r.1 + 2) l)

abbrev pointers_in : List (ℕ × ℕ) → ℕ
pointers_in [] = 0
pointers_in (r ∷ l) = suc r.1 - r.0 + pointers_in l

-- the runs are ascending, none can be joined to the next; the index has 7,724 pointers in 24 runs
pub runs_ascending : T (ascending 0 runs && eqb (length runs) 24 && eqb (pointers_in runs) 7724)
unfolding computed
runs_ascending = tt

-- "the pair 0x85 0x40": no character, and its lead's place; the pairs at both ends of the range 8836 to 10715 and beside it (the
-- one after it is in the index), the last of the index and the one after it; a byte order mark, 0xEF 0xBB 0xBF
pub pairs : T (
    not (good (0x85 ∷ 0x40 ∷ []))
    && eqb (fault (0x41 ∷ 0x83 ∷ 0x41 ∷ 0x85 ∷ 0x40 ∷ [])) 3
    && not (good (0xEF ∷ 0xFC ∷ []))
    && good (0xF0 ∷ 0x40 ∷ 0xF9 ∷ 0xFC ∷ 0xFA ∷ 0x40 ∷ 0xFC ∷ 0x4B ∷ [])
    && not (good (0xFC ∷ 0x4C ∷ []))
    && good (0x81 ∷ 0xAC ∷ [])
    && not (good (0x81 ∷ 0xAD ∷ []))
    && not (good (0xEF ∷ 0xBB ∷ 0xBF ∷ 0xBD ∷ [])))
unfolding computed
pairs = tt

-- the place of the first fault: a pair's is that of its lead, of two the first counts, and where all is good it is the length
pub fault_places : T (
    eqb (fault []) 0
    && eqb (fault (0x41 ∷ 0x42 ∷ 0x43 ∷ [])) 3
    && eqb (fault (0x83 ∷ 0x41 ∷ 0xB1 ∷ [])) 3
    && eqb (fault (0x81 ∷ 0x81 ∷ 0x40 ∷ [])) 3
    && eqb (fault (0x81 ∷ 0x81 ∷ 0x20 ∷ 0xFD ∷ [])) 3
    && eqb (fault (0x83 ∷ 0xA0 ∷ 0x83 ∷ [])) 2
    && eqb (fault (0xA0 ∷ 0x41 ∷ [])) 0
    && eqb (fault (0x41 ∷ 0xA0 ∷ 0x41 ∷ 0xFD ∷ [])) 1
    && eqb (fault (0x41 ∷ 0x83 ∷ 0x7F ∷ 0x41 ∷ [])) 1
    && eqb (fault (0x83 ∷ 0x41 ∷ 0x83 ∷ 0xFD ∷ [])) 2
    && eqb (fault (0x81 ∷ 0x40 ∷ 0x81 ∷ [])) 2
    && eqb (fault (0x83 ∷ 0x83 ∷ 0x83 ∷ 0x83 ∷ 0x83 ∷ [])) 4)
unfolding computed
fault_places = tt

-- ---- the smallest and the largest frame

-- the file opens with these two
abbrev has_frames : Answer Opening → ℕ → ℕ → Bool
has_frames (declined k) a b = false
has_frames (given o) a b = eqb o.smallest_frame a && eqb o.largest_frame b

abbrev opens_with : List ℕ → ℕ → ℕ → Bool
opens_with s a b = has_frames (open_file lenient s 3) a b

-- records one after another: a name field, the frame's four bytes, and zeros
abbrev records : ℕ → ℕ → List (List ℕ) → List ℕ
records name after [] = []
records name after (f ∷ l) = replicate name 0 ++ f ++ replicate after 0 ++ records name after l

-- a file of such records, in the section after so many empty ones
abbrev one_section : ℕ → ℕ → ℕ → List (List ℕ) → List ℕ
one_section empty name after l = start ++ replicate (4 * empty) 0 ++ fours (length l ∷ []) ++ records name after l

-- what holds of such a file, whichever section it is
abbrev in_each : (List ℕ → Bool) → List (List ℕ) → Bool
in_each holds l =
    holds (one_section 0 15 92 l) && holds (one_section 1 15 4 l) && holds (one_section 2 0 57 l)
    && holds (one_section 3 0 24 l) && holds (one_section 4 0 5 l) && holds (one_section 5 0 5 l)

-- small frames
abbrev frames : List ℕ → List (List ℕ)
frames [] = []
frames (n ∷ l) = fours (n ∷ []) ∷ frames l

-- Only one record: it is both. None is told by the counts: one record at the largest number is not none, and neither is one
-- at 0.
pub only_record : T (
    opens_with (start ++ u0) 0 0
    && in_each (λ s. opens_with s 7 7) (frames (7 ∷ []))
    && in_each (λ s. opens_with s 0 0) (frames (0 ∷ []))
    && in_each (λ s. opens_with s 4294967295 4294967295) ((255 ∷ 255 ∷ 255 ∷ 255 ∷ []) ∷ []))
unfolding computed
only_record = tt

-- whichever record of a section it is
pub any_record : T (
    in_each (λ s. opens_with s 2 9) (frames (2 ∷ 9 ∷ 5 ∷ []))
    && in_each (λ s. opens_with s 2 9) (frames (5 ∷ 2 ∷ 9 ∷ []))
    && in_each (λ s. opens_with s 2 9) (frames (9 ∷ 5 ∷ 2 ∷ [])))
unfolding computed
any_record = tt

-- one record in every section, at these frames, and no model name
abbrev six : ℕ → ℕ → ℕ → ℕ → ℕ → ℕ → List ℕ
six b m c l s p = one_each (replicate 20 0) b m c l s p

-- and whichever section it stands in
pub frames_anywhere : T (
    opens_with (six 2 9 8 7 6 5) 2 9
    && opens_with (six 5 2 9 8 7 6) 2 9
    && opens_with (six 6 5 2 9 8 7) 2 9
    && opens_with (six 7 6 5 2 9 8) 2 9
    && opens_with (six 8 7 6 5 2 9) 2 9
    && opens_with (six 9 8 7 6 5 2) 2 9)
unfolding computed
frames_anywhere = tt

-- what a join of two files opens with, by what these open with
abbrev joined_opening : Answer Opening → Answer Opening → ℕ → Bool
joined_opening (declined k) y n = false
joined_opening (given o) (declined k) n = false
joined_opening (given o) (given p) n = eqb (joined_smallest o p) n

abbrev joins_with : List ℕ → List ℕ → ℕ → Bool
joins_with s t n = joined_opening (open_file lenient s 3) (open_file lenient t 3) n && joined_opening (open_file lenient t 3) (open_file lenient s 3) n

-- on either side, records in any one section count, and a file without records does not
pub joined_anywhere : T (
    in_each (λ s. joins_with s (start ++ u0) 4) (frames (4 ∷ 8 ∷ []))
    && in_each (λ s. joins_with s (six 6 6 6 6 6 6) 4) (frames (4 ∷ 8 ∷ []))
    && in_each (λ s. joins_with s (six 3 3 3 3 3 3) 3) (frames (4 ∷ 8 ∷ []))
    && joins_with (start ++ u0) (start ++ u0) 0)
unfolding computed
joined_anywhere = tt

-- how many records there are
abbrev counted : Answer Opening → ℕ → Bool
counted (declined k) n = false
counted (given o) n = eqb (record_count o.scan) n

abbrev counts_records : List ℕ → ℕ → Bool
counts_records s n = counted (open_file lenient s 3) n

pub records_counted : T (
    in_each (λ s. counts_records s 3) (frames (1 ∷ 1 ∷ 1 ∷ []))
    && counts_records (six 1 1 1 1 1 1) 6
    && counts_records (start ++ u0) 0)
unfolding computed
records_counted = tt
