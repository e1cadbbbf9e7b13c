-- A take tidied, computed from its bytes: another number in every record, and the refusals at their limits.
use Rattle.std.specs.Prelude.{ℕ, zero, suc, ◌+◌, ◌≡◌, refl, Bool, not, ◌&&◌, List, [], ◌∷◌, ◌++◌, replicate, T}
use Rattle.vmd_format.specs.Refusal.{file_ends_early, scratch_too_short, output_too_short, bytes_over, count_oversized}
use Rattle.vmd_format.specs.Answer.{declined, given, map_answer}
use Rattle.vmd_format.specs.Read.{strict, lenient}
use Rattle.vmd_format.specs.Join.{join_files}
use Rattle.vmd_format.specs.Computed.{computed, declines, bytes_of, text, start, older_text, fours, u0, counting, one_each, camera_bytes, light_bytes, shadow_bytes, ik_bytes}
use Rattle.vmd_keys.specs.Names.{registered_if, registration_name, keep_if, select, distinct}
use Rattle.vmd_tracks.specs.Tracks.{put_if, put, put_all, lasts, track, lay, tidy_section, one_track, any, same_slot, dropped}
use Rattle.vmd_tracks.specs.Tidy.{tidy_by, tidy}
use Rattle.vmd_tidy.specs.Tidied.{Counts, counts_of, dropped_by, largest_section, tidied_file, fitting, tidying, Report, report, cleared, tidied_answer, tidied_output, tidied_scratch, size_answer, size_scratch}

-- unfolding this and `computed` unfolds the definitions of tidying
unfoldable tidy_computed : Unit {0}
unfolding registered_if registration_name keep_if select distinct put_if put put_all lasts track lay tidy_section one_track any same_slot dropped tidy_by tidy counts_of dropped_by largest_section tidied_file fitting tidying report cleared
tidy_computed = tt

-- a bone and a morph: the letter c, a zero and bytes j, the frame f, and v to tell the record by
abbrev bone_of : ℕ → ℕ → ℕ → ℕ → List ℕ
bone_of c j f v = c ∷ 0 ∷ replicate 13 j ++ fours (f ∷ v ∷ 12 ∷ 13 ∷ 14 ∷ 15 ∷ 16 ∷ 17 ∷ []) ++ replicate 64 v

abbrev morph_of : ℕ → ℕ → ℕ → ℕ → List ℕ
morph_of c j f v = c ∷ 0 ∷ replicate 13 j ++ fours (f ∷ v ∷ [])

-- Bones "B" at 5, "A" at 3, "B" at 4, "B" at 5 again, "A" at 1, with bytes after the names' ends; the last in file order comes
-- first in its track. Morphs "A" at 2 twice, "C" at 0. Cameras at 7, 3 and 7, lights at 4 and 2, self-shadows at 1, 1 and 0.
-- Property frames at 8 with one IK state, at 2 with none, and at 8 with two.
abbrev sections : List ℕ
sections =
    fours (5 ∷ []) ++ bone_of 66 9 5 1 ++ bone_of 65 8 3 2 ++ bone_of 66 7 4 3 ++ bone_of 66 6 5 4 ++ bone_of 65 5 1 5
    ++ fours (3 ∷ []) ++ morph_of 65 4 2 6 ++ morph_of 65 3 2 7 ++ morph_of 67 2 0 8
    ++ fours (3 ∷ []) ++ camera_bytes 7 1 ++ camera_bytes 3 0 ++ camera_bytes 7 0
    ++ fours (2 ∷ []) ++ light_bytes 4 ++ light_bytes 2
    ++ fours (3 ∷ []) ++ shadow_bytes 1 0 ++ shadow_bytes 1 2 ++ shadow_bytes 0 1
    ++ fours (3 ∷ []) ++ fours (8 ∷ []) ++ (1 ∷ []) ++ fours (1 ∷ []) ++ ik_bytes 69 7 1
    ++ fours (2 ∷ []) ++ (0 ∷ []) ++ u0
    ++ fours (8 ∷ []) ++ (0 ∷ []) ++ fours (2 ∷ []) ++ ik_bytes 70 6 0 ++ ik_bytes 71 5 1

abbrev file : List ℕ
file = text ++ (1 ∷ 2 ∷ 3 ∷ 4 ∷ 77 ∷ 0 ∷ replicate 18 9) ++ sections

-- its tidied file: canonical, the tracks in order of first appearance, each by frame
abbrev tidied : List ℕ
tidied =
    text ++ (0 ∷ 0 ∷ 0 ∷ 0 ∷ 77 ∷ replicate 19 0)
    ++ fours (4 ∷ []) ++ bone_of 66 0 4 3 ++ bone_of 66 0 5 4 ++ bone_of 65 0 1 5 ++ bone_of 65 0 3 2
    ++ fours (2 ∷ []) ++ morph_of 65 0 2 7 ++ morph_of 67 0 0 8
    ++ fours (2 ∷ []) ++ camera_bytes 3 0 ++ camera_bytes 7 0
    ++ fours (2 ∷ []) ++ light_bytes 2 ++ light_bytes 4
    ++ fours (2 ∷ []) ++ shadow_bytes 0 1 ++ shadow_bytes 1 2
    ++ fours (2 ∷ []) ++ fours (2 ∷ []) ++ (0 ∷ []) ++ u0
    ++ fours (8 ∷ []) ++ (0 ∷ []) ++ fours (2 ∷ []) ++ ik_bytes 70 0 0 ++ ik_bytes 71 0 1

pub tidied_told : bytes_of (map_answer tidied_file (tidying lenient file 5 820)) ≡ tidied
unfolding computed tidy_computed
tidied_told = refl

-- the same take in the older edition
pub older_told : bytes_of (map_answer tidied_file (tidying lenient (older_text ++ (1 ∷ 2 ∷ 3 ∷ 4 ∷ 77 ∷ 0 ∷ replicate 8 9) ++ sections) 5 820)) ≡ tidied
unfolding computed tidy_computed
older_told = refl

-- the answer: the bytes, and for each section kept and dropped
pub report_told :
    map_answer report (tidying lenient file 5 820)
    ≡ given (record {
      bytes = 820;
      kept = record { bones = 4; morphs = 2; cameras = 2; lights = 2; self_shadows = 2; properties = 2 };
      dropped = record { bones = 1; morphs = 1; cameras = 1; lights = 0; self_shadows = 1; properties = 1 };
    })
unfolding computed tidy_computed
report_told = refl

-- five places are cleared, the largest section's, and two keep their contents
pub scratch_told : cleared (9 ∷ 8 ∷ 7 ∷ 6 ∷ 5 ∷ 4 ∷ 3 ∷ []) (tidying lenient file 7 820) ≡ 0 ∷ 0 ∷ 0 ∷ 0 ∷ 0 ∷ 4 ∷ 3 ∷ []
unfolding computed tidy_computed
scratch_told = refl

-- a place too few is 3, and so it is with a byte too few, which alone is 13; a file that is refused is so whatever was lent
pub refusals_told :
    T (declines (tidying lenient file 4 820) 3) × T (declines (tidying lenient file 4 819) 3) × T (declines (tidying lenient file 5 819) 13)
    × T (declines (tidying lenient (text ++ replicate 24 0) 0 0) 1) × T (declines (tidying lenient (replicate 60 0) 0 0) 2)
unfolding computed tidy_computed
refusals_told = (tt, tt, tt, tt, tt)

-- each section counts for the scratch: one record alone needs a place, two of them two
abbrev alone : List ℕ → List ℕ → Bool
alone front one =
    let file = text ++ replicate 24 0 ++ front in
    declines (tidying lenient (file ++ fours (1 ∷ []) ++ one) 0 400) 3
    && declines (tidying lenient (file ++ fours (2 ∷ []) ++ one ++ one) 1 400) 3
    && not (declines (tidying lenient (file ++ fours (2 ∷ []) ++ one ++ one) 2 400) 3)

pub largest_told :
    T (alone [] (bone_of 65 0 1 2)) × T (alone u0 (morph_of 65 0 1 2)) × T (alone (u0 ++ u0) (camera_bytes 1 0))
    × T (alone (u0 ++ u0 ++ u0) (light_bytes 1)) × T (alone (u0 ++ u0 ++ u0 ++ u0) (shadow_bytes 1 0))
    × T (alone (u0 ++ u0 ++ u0 ++ u0 ++ u0) (fours (1 ∷ []) ++ (1 ∷ []) ++ u0))
unfolding computed tidy_computed
largest_told = (tt, tt, tt, tt, tt, tt)

-- sections do not add up: with a record in each of the six, one place is enough, and all of them need it
pub each_told :
    let file = one_each (replicate 20 0) 1 2 3 4 5 6 in
    T (declines (tidying lenient file 0 400) 3) × (cleared (9 ∷ 8 ∷ []) (tidying lenient file 2 336) ≡ 0 ∷ 8 ∷ [])
unfolding computed tidy_computed
each_told = (tt, refl)

-- a take without records needs no scratch
pub empty_told : bytes_of (map_answer tidied_file (tidying lenient (text ++ replicate 28 0) 0 74)) ≡ text ++ replicate 48 0
unfolding computed tidy_computed
empty_told = refl

-- ---- frames and names as they are told apart

-- three records of a section, alike but for their frames: what stands before the frame, and what after it
abbrev three : List ℕ → List ℕ → List ℕ → List ℕ → List ℕ → List ℕ
three front back a b c = fours (3 ∷ []) ++ front ++ a ++ back ++ front ++ b ++ back ++ front ++ c ++ back

abbrev in_each : List ℕ → List ℕ → List ℕ → List ℕ
in_each a b c =
    three (65 ∷ replicate 14 0) (replicate 92 1) a b c ++ three (65 ∷ replicate 14 0) (replicate 4 1) a b c
    ++ three [] (replicate 57 1) a b c ++ three [] (replicate 24 1) a b c ++ three [] (replicate 5 1) a b c
    ++ three [] ((1 ∷ []) ++ u0) a b c

-- by all their 32 bits, without a sign: frames 2^31, 2^31 - 1 and 2^16 of one track, in each section
pub frames_told :
    let high : List ℕ = 0 ∷ 0 ∷ 0 ∷ 128 ∷ [] in
    let middle : List ℕ = 255 ∷ 255 ∷ 255 ∷ 127 ∷ [] in
    let low : List ℕ = 0 ∷ 0 ∷ 1 ∷ 0 ∷ [] in
    bytes_of (map_answer tidied_file (tidying lenient (start ++ in_each high middle low) 3 797)) ≡ start ++ in_each low middle high
unfolding computed tidy_computed
frames_told = refl

-- names at one frame: 15 letters, the same but for the last, "A" and a CR, "A", and none; n bytes after the frame
abbrev named : ℕ → ℕ → List ℕ
named v n =
    let after : List ℕ = fours (1 ∷ []) ++ replicate n v in
    counting 65 15 ++ after ++ counting 65 14 ++ (90 ∷ []) ++ after ++ (65 ∷ 13 ∷ replicate 13 0) ++ after ++ (65 ∷ replicate 14 0) ++ after ++ replicate 15 0 ++ after

-- names without a line feed tell a track by all their bytes; a model name of 20 bytes is kept
abbrev by_names : List ℕ → List ℕ → List ℕ
by_names bones morphs = text ++ replicate 4 0 ++ counting 1 20 ++ bones ++ morphs

abbrev named_twice : List ℕ
named_twice = by_names (fours (10 ∷ []) ++ named 1 92 ++ named 2 92) (fours (10 ∷ []) ++ named 3 4 ++ named 4 4)

pub names_told :
    (bytes_of (map_answer tidied_file (tidying lenient named_twice 10 744))
    ≡ by_names (fours (5 ∷ []) ++ named 2 92) (fours (5 ∷ []) ++ named 4 4) ++ replicate 16 0)
    × (map_answer report (tidying lenient named_twice 10 744)
    ≡ given (record {
      bytes = 744;
      kept = record { bones = 5; morphs = 5; cameras = 0; lights = 0; self_shadows = 0; properties = 0 };
      dropped = record { bones = 5; morphs = 5; cameras = 0; lights = 0; self_shadows = 0; properties = 0 };
    }))
unfolding computed tidy_computed
names_told = (refl, refl)

-- ---- 02 k): names up to the line feed

-- "A", "A" with the remark "x", "A" with the remark "y" that fills the field, none, and a line feed alone
abbrev plain : List ℕ
plain = 65 ∷ replicate 14 0

abbrev remark_x : List ℕ
remark_x = 65 ∷ 10 ∷ 120 ∷ replicate 12 0

abbrev remark_y : List ℕ
remark_y = 65 ∷ 10 ∷ replicate 13 121

abbrev none : List ℕ
none = replicate 15 0

abbrev feed_alone : List ℕ
feed_alone = 10 ∷ replicate 14 0

-- a record of a name and a frame, with v to tell it by
abbrev row : ℕ → List ℕ → ℕ → ℕ → List ℕ
row n name f v = name ++ fours (f ∷ []) ++ replicate n v

-- Two tracks, in order of first appearance; of a frame the last record in file order stays, with its own name. The name that
-- the first appears under need not be among those kept.
abbrev remarked : ℕ → List ℕ
remarked n =
    fours (7 ∷ []) ++ row n plain 3 1 ++ row n feed_alone 5 2 ++ row n remark_x 1 3 ++ row n remark_y 3 4 ++ row n none 4 5
    ++ row n remark_x 1 6 ++ row n none 5 7

abbrev remarked_tidy : ℕ → List ℕ
remarked_tidy n = fours (4 ∷ []) ++ row n remark_x 1 6 ++ row n remark_y 3 4 ++ row n none 4 5 ++ row n none 5 7

abbrev with_remarks : List ℕ
with_remarks = start ++ remarked 92 ++ remarked 4

abbrev with_remarks_tidy : List ℕ
with_remarks_tidy = start ++ remarked_tidy 92 ++ remarked_tidy 4 ++ replicate 16 0

pub remarks_told :
    (bytes_of (map_answer tidied_file (tidying lenient with_remarks 7 610)) ≡ with_remarks_tidy)
    × (map_answer report (tidying lenient with_remarks 7 610)
    ≡ given (record {
      bytes = 610;
      kept = record { bones = 4; morphs = 4; cameras = 0; lights = 0; self_shadows = 0; properties = 0 };
      dropped = record { bones = 3; morphs = 3; cameras = 0; lights = 0; self_shadows = 0; properties = 0 };
    }))
unfolding computed tidy_computed
remarks_told = (refl, refl)

-- tidied again it is the same, though its first bone is not named as the track's first was
pub remarks_twice : bytes_of (map_answer tidied_file (tidying lenient with_remarks_tidy 4 610)) ≡ with_remarks_tidy
unfolding computed tidy_computed
remarks_twice = refl

-- two takes that spell the remark differently, joined
abbrev half : List ℕ → ℕ → List ℕ
half name v = start ++ fours (2 ∷ []) ++ row 92 name 1 v ++ row 92 name 0 (v + 1) ++ replicate 20 0

pub halves_told :
    bytes_of (map_answer tidied_file (tidying lenient (bytes_of (join_files lenient (half remark_x 1) (half remark_y 3))) 4 296))
    ≡ start ++ fours (2 ∷ []) ++ row 92 remark_y 0 4 ++ row 92 remark_y 1 3 ++ replicate 20 0
unfolding computed tidy_computed
halves_told = refl

-- n records at frames 1 to n
abbrev rows : List ℕ → List ℕ → ℕ → List ℕ
rows front back zero = []
rows front back (suc n) = front ++ fours (suc n ∷ []) ++ back ++ rows front back n

-- those of a section, three times
abbrev thrice : List ℕ → List ℕ → ℕ → ℕ → List ℕ
thrice front back n all = let r = rows front back n in fours (all ∷ []) ++ r ++ r ++ r

-- other numbers in every section
pub numbers_told :
    map_answer report (tidying lenient (
    start ++ thrice (65 ∷ replicate 14 0) (replicate 92 1) 1 3 ++ thrice (65 ∷ replicate 14 0) (replicate 4 1) 2 6
    ++ thrice [] (replicate 57 1) 3 9 ++ thrice [] (replicate 24 1) 4 12 ++ thrice [] (replicate 5 1) 5 15 ++ thrice [] ((1 ∷ []) ++ u0) 6 18
    ) 18 625)
    ≡ given (record {
      bytes = 625;
      kept = record { bones = 1; morphs = 2; cameras = 3; lights = 4; self_shadows = 5; properties = 6 };
      dropped = record { bones = 2; morphs = 4; cameras = 6; lights = 8; self_shadows = 10; properties = 12 };
    })
unfolding computed tidy_computed
numbers_told = refl

-- ---- what the calls answer and leave

-- two self-shadows at one frame, the file without the first, and the answer
abbrev two : List ℕ
two = start ++ u0 ++ u0 ++ u0 ++ u0 ++ fours (2 ∷ []) ++ shadow_bytes 1 0 ++ shadow_bytes 1 2

abbrev one : List ℕ
one = start ++ u0 ++ u0 ++ u0 ++ u0 ++ fours (1 ∷ []) ++ shadow_bytes 1 2 ++ u0

abbrev shadows : ℕ → Counts
shadows n = record { bones = 0; morphs = 0; cameras = 0; lights = 0; self_shadows = n; properties = 0 }

abbrev done : Report
done = record { bytes = 83; kept = shadows 1; dropped = shadows 1 }

-- the file stands at the front of the output, and the rest keeps its contents
pub left_told :
    (tidied_answer lenient two (7 ∷ 6 ∷ 5 ∷ []) (replicate 85 9) ≡ given done)
    × (tidied_output lenient two (7 ∷ 6 ∷ 5 ∷ []) (replicate 85 9) ≡ one ++ (9 ∷ 9 ∷ []))
    × (tidied_scratch lenient two (7 ∷ 6 ∷ 5 ∷ []) (replicate 85 9) ≡ 0 ∷ 0 ∷ 5 ∷ [])
unfolding computed tidy_computed
left_told = (refl, refl, refl)

-- a place too few, a byte too few, and a file that is refused leave output and scratch as they were
pub unchanged_told :
    (tidied_answer lenient two (7 ∷ []) (replicate 85 9) ≡ declined scratch_too_short)
    × (tidied_output lenient two (7 ∷ []) (replicate 85 9) ≡ replicate 85 9)
    × (tidied_scratch lenient two (7 ∷ []) (replicate 85 9) ≡ 7 ∷ [])
    × (tidied_answer lenient two (7 ∷ 6 ∷ 5 ∷ []) (replicate 82 9) ≡ declined output_too_short)
    × (tidied_output lenient two (7 ∷ 6 ∷ 5 ∷ []) (replicate 82 9) ≡ replicate 82 9)
    × (tidied_scratch lenient two (7 ∷ 6 ∷ 5 ∷ []) (replicate 82 9) ≡ 7 ∷ 6 ∷ 5 ∷ [])
    × (tidied_answer lenient start (7 ∷ 6 ∷ 5 ∷ []) (replicate 85 9) ≡ declined file_ends_early)
    × (tidied_output lenient start (7 ∷ 6 ∷ 5 ∷ []) (replicate 85 9) ≡ replicate 85 9)
    × (tidied_scratch lenient start (7 ∷ 6 ∷ 5 ∷ []) (replicate 85 9) ≡ 7 ∷ 6 ∷ 5 ∷ [])
unfolding computed tidy_computed
unchanged_told = (refl, refl, refl, refl, refl, refl, refl, refl, refl)

-- the size call, which is lent the scratch alone
pub size_told :
    (size_answer lenient two (7 ∷ 6 ∷ 5 ∷ []) ≡ given done) × (size_scratch lenient two (7 ∷ 6 ∷ 5 ∷ []) ≡ 0 ∷ 0 ∷ 5 ∷ [])
    × (size_answer lenient two (7 ∷ []) ≡ declined scratch_too_short) × (size_scratch lenient two (7 ∷ []) ≡ 7 ∷ [])
    × (size_answer lenient start (7 ∷ []) ≡ declined file_ends_early) × (size_scratch lenient start (7 ∷ []) ≡ 7 ∷ [])
unfolding computed tidy_computed
size_told = (refl, refl, refl, refl, refl, refl)

-- 02 i): 16 and 17 before 3 and 13, output and scratch as they were; the lenient manner tidies such a file; and what both
-- accept is tidied alike
pub manners_told :
    (tidied_answer strict (one ++ (0 ∷ [])) [] [] ≡ declined bytes_over)
    × (tidied_output strict (one ++ (0 ∷ [])) (7 ∷ 6 ∷ []) (replicate 85 9) ≡ replicate 85 9)
    × (tidied_scratch strict (one ++ (0 ∷ [])) (7 ∷ 6 ∷ []) (replicate 85 9) ≡ 7 ∷ 6 ∷ [])
    × (tidied_output lenient (one ++ (0 ∷ [])) (7 ∷ 6 ∷ []) (replicate 85 9) ≡ one ++ (9 ∷ 9 ∷ []))
    × (size_answer strict (start ++ u0 ++ u0 ++ fours (1 ∷ [])) [] ≡ declined count_oversized)
    × (size_scratch strict (start ++ u0 ++ u0 ++ fours (1 ∷ [])) (7 ∷ []) ≡ 7 ∷ [])
    × (tidied_answer strict two (7 ∷ 6 ∷ 5 ∷ []) (replicate 85 9) ≡ given done)
    × (tidied_output strict two (7 ∷ 6 ∷ 5 ∷ []) (replicate 85 9) ≡ one ++ (9 ∷ 9 ∷ []))
unfolding computed tidy_computed
manners_told = (refl, refl, refl, refl, refl, refl, refl, refl)
