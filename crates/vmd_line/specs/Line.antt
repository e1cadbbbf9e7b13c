-- The line that vmd-list prints for a file: document 01, "Takes to try". Definitions only.
use Rattle.std.specs.Prelude.{ℕ, Bool, true, false, List, [], ◌∷◌, ◌++◌, length, leb}
use Rattle.vmd_format.specs.Refusal.{number}
use Rattle.vmd_format.specs.Answer.{Answer, declined, given}
use Rattle.vmd_format.specs.Read.{Manner}
use Rattle.vmd_format.specs.Opening.{Scan, Opening, open_file, scratch_after}
use Rattle.vmd_format.specs.Take.{newer}
use Rattle.vmd_format.specs.Join.{file_length}
use Rattle.vmd_text.specs.Text.{decimal}

-- ---- rows of numbers

-- each number after a space
unfoldable pub spaced : List ℕ → List ℕ
spaced [] = []
spaced (n ∷ l) = 32 ∷ decimal n ++ spaced l

-- numbers with single spaces between them, and a line feed
unfoldable pub row : List ℕ → List ℕ
row [] = 10 ∷ []
row (n ∷ l) = decimal n ++ spaced l ++ (10 ∷ [])

-- ---- the line

-- "too long" and a line feed
unfoldable pub too_long : List ℕ
too_long = 116 ∷ 111 ∷ 111 ∷ 32 ∷ 108 ∷ 111 ∷ 110 ∷ 103 ∷ 10 ∷ []

-- "refused ", a number and a line feed
unfoldable pub refused_line : ℕ → List ℕ
refused_line n = 114 ∷ 101 ∷ 102 ∷ 117 ∷ 115 ∷ 101 ∷ 100 ∷ 32 ∷ decimal n ++ (10 ∷ [])

-- how long the export of these records is
unfoldable pub export_size : Scan → ℕ
export_size x =
    file_length newer x.bones.count x.morphs.count x.cameras.count x.lights.count x.self_shadows.count x.properties.count
    x.ik_states

-- "bones, morphs, cameras, lights, self-shadows, properties, IK states, largest frame, export length"; the smallest frame
-- "stands just before the largest frame" (02 c)
unfoldable pub numbers : Opening → List ℕ
numbers o =
    o.scan.bones.count ∷ o.scan.morphs.count ∷ o.scan.cameras.count ∷ o.scan.lights.count ∷ o.scan.self_shadows.count
    ∷ o.scan.properties.count ∷ o.scan.ik_states ∷ o.smallest_frame ∷ o.largest_frame ∷ export_size o.scan ∷ []

-- "A refused file prints `refused` and the number"
unfoldable pub line_of : Answer Opening → List ℕ
line_of (declined k) = refused_line (number k)
line_of (given o) = row (numbers o)

-- the line where the file is short enough, and where it is not
unfoldable pub line_if : Bool → Manner → List ℕ → ℕ → List ℕ
line_if true m file places = line_of (open_file m file places)
line_if false m file places = too_long

-- "reads standard input of up to 65,536 bytes, opens it with scratch enough and prints one line"
unfoldable pub line : Manner → List ℕ → ℕ → List ℕ
line m file places = line_if (leb (length file) 65536) m file places

-- the scratch that the line leaves: that of opening, and all of it where the file is too long
unfoldable pub line_scratch_if : Bool → Manner → List ℕ → List ℕ → List ℕ
line_scratch_if true m file scratch = scratch_after m file scratch
line_scratch_if false m file scratch = scratch

unfoldable pub line_scratch : Manner → List ℕ → List ℕ → List ℕ
line_scratch m file scratch = line_scratch_if (leb (length file) 65536) m file scratch
