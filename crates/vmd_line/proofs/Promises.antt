-- Promises of the line: which one a file has, its last number is the length of the export, and 512 places of scratch are
-- enough. Assumes nothing.
use Prim.Native.Nat.{ℕ, ◌≤◌, ◌<◌}
use mathlib.Core.Path.{◌≡◌, refl, ap}
use mathlib.Core.Bool.{◌&&◌}
use mathlib.Core.List.{List, [], ◌∷◌, ◌++◌}
use native.Mathlib.Omega.{arith}
use borrow.Author.Tests.{le-leb, lt-leb}
use lib.Dec.{T}
use lib.ListN.{length, replicate}
use Rattle.vmd_format.specs.Answer.{given, map_answer}
use Rattle.vmd_format.specs.Read.{Manner, lenient}
use Rattle.vmd_format.specs.Take.{newer, same, write_take}
use Rattle.vmd_format.specs.Opening.{places_needed, Opening, open_file, scratch_after}
use Rattle.vmd_format.specs.Join.{export_file, file_length}
use Rattle.vmd_laws.specs.Places.{scan_file}
use Rattle.vmd_laws.specs.OpeningLaws.{ninth_enough}
use Rattle.vmd_laws.specs.InsideLaws.{opened_scan}
use Rattle.vmd_laws.specs.RefusalLaws.{Refuses, reading_numbers, enough_refuses}
use Rattle.vmd_laws.specs.ExportLaws.{take_in, export_by_places, scan_scanned, scan_counts, scan_length}
use Rattle.vmd_format.specs.Computed.{computed, start, u0, u1}
use Rattle.vmd_text.specs.Text.{tens_if, digits, decimal}
use Rattle.vmd_line.specs.Line.{spaced, row, too_long, refused_line, export_size, numbers, line_of, line_if, line, line_scratch_if, line_scratch}

-- ---- which line

-- "of up to 65,536 bytes": the line of what opening answers
pub listed : (m : Manner) (s scratch : List ℕ) → length s ≤ 65536
    → (line m s (length scratch) ≡ line_of (open_file m s (length scratch))) × (line_scratch m s scratch ≡ scratch_after m s scratch)
unfolding line line_if line_scratch line_scratch_if
listed m s scratch h = (rw (le-leb (length s) 65536 h), rw (le-leb (length s) 65536 h))

-- "a longer input prints `too long`", and the scratch is as it was
pub longer : (m : Manner) (s scratch : List ℕ) → 65536 < length s
    → (line m s (length scratch) ≡ 116 ∷ 111 ∷ 111 ∷ 32 ∷ 108 ∷ 111 ∷ 110 ∷ 103 ∷ 10 ∷ []) × (line_scratch m s scratch ≡ scratch)
unfolding line line_if line_scratch line_scratch_if too_long
longer m s scratch h = (rw (lt-leb (length s) 65536 h), rw (lt-leb (length s) 65536 h))

-- ---- the export length

-- the last number of the line is the length of the export
pub export_is_as_long : (m : Manner) (s : List ℕ) (places : ℕ) (o : Opening) → open_file m s places ≡ given o
    → map_answer length (export_file m s) ≡ given (export_size o.scan)
unfolding map_answer export_size write_take
export_is_as_long m s places o e =
    let q : scan_file m s ≡ given o.scan = opened_scan m s places o e in
    rw (export_by_places m s, q) (ap given (scan_length newer (take_in s o.scan) o.scan (scan_counts s o.scan (scan_scanned m s o.scan q))))

-- ---- scratch enough

-- with 512 places no file of at most 65,536 bytes is refused with 3, since a property frame has at least nine bytes and a place
-- serves sixteen
pub scratch_is_enough : (m : Manner) (s : List ℕ) → length s ≤ 65536 → Refuses (reading_numbers m) (open_file m s 512)
unfolding places_needed
scratch_is_enough m s h = enough_refuses m s 512 (ninth_enough m s 512 (omega arith))

-- in the lenient manner, only with 1 or 2
pub refused_early : (s : List ℕ) → length s ≤ 65536 → Refuses (1 ∷ 2 ∷ []) (open_file lenient s 512)
unfolding lenient
refused_early s h = scratch_is_enough lenient s h

-- ---- examples

-- numbers in decimal, the line of "start,0", the same of "start,0,0,1" and of a byte over (02 i: it is the lenient manner's), and
-- those of files that are refused with 1 and with 2
pub examples : T (
    same (decimal 0) (48 ∷ [])
    && same (decimal 10) (49 ∷ 48 ∷ [])
    && same (decimal 65536) (54 ∷ 53 ∷ 53 ∷ 51 ∷ 54 ∷ [])
    && same (line lenient (start ++ u0) 0) (48 ∷ 32 ∷ 48 ∷ 32 ∷ 48 ∷ 32 ∷ 48 ∷ 32 ∷ 48 ∷ 32 ∷ 48 ∷ 32 ∷ 48 ∷ 32 ∷ 48 ∷ 32 ∷ 48 ∷ 32 ∷ 55 ∷ 52 ∷ 10 ∷ [])
    && same (line lenient (start ++ u0 ++ u0 ++ u1) 0) (line lenient (start ++ u0) 0)
    && same (line lenient (start ++ replicate 25 0) 0) (line lenient (start ++ u0) 0)
    && same (line lenient start 0) (114 ∷ 101 ∷ 102 ∷ 117 ∷ 115 ∷ 101 ∷ 100 ∷ 32 ∷ 49 ∷ 10 ∷ [])
    && same (line lenient (replicate 30 65) 0) (114 ∷ 101 ∷ 102 ∷ 117 ∷ 115 ∷ 101 ∷ 100 ∷ 32 ∷ 50 ∷ 10 ∷ []))
unfolding computed file_length tens_if digits decimal spaced row too_long refused_line export_size numbers line_of line_if line
examples = tt

-- which number stands where: 74 + 111 * 1 + 23 * 2 + 61 * 3 + 28 * 4 + 9 * 5 + 9 * 6 + 21 * 7 is 772
pub in_order :
    numbers
    (record {
      scan = record {
        bones = record { count = 1; place = 11 };
        morphs = record { count = 2; place = 12 };
        cameras = record { count = 3; place = 13 };
        lights = record { count = 4; place = 14 };
        self_shadows = record { count = 5; place = 15 };
        properties = record { count = 6; place = 16 };
        ik_states = 7;
      };
      smallest_frame = 8;
      largest_frame = 9;
    })
    ≡ 1 ∷ 2 ∷ 3 ∷ 4 ∷ 5 ∷ 6 ∷ 7 ∷ 8 ∷ 9 ∷ 772 ∷ []
unfolding file_length export_size numbers
in_order = refl
