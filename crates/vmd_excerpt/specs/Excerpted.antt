-- What the calls that write an excerpt answer, and what they leave in the output, in a manner of reading: 02 j). Definitions only.
use Rattle.std.specs.Prelude.{ℕ, List, leb, length}
use Rattle.vmd_format.specs.Refusal.{first_above_last}
use Rattle.vmd_format.specs.Answer.{Answer, map_answer, unless, fitted, left}
use Rattle.vmd_format.specs.Read.{Manner}
use Rattle.vmd_format.specs.Take.{read_take, write_take}
use Rattle.vmd_framed.specs.Excerpt.{excerpt}

-- "Given a first and a last frame, an excerpt is the canonical file of" these records; "18 the first frame is above the last,
-- tested before the file is read"
unfoldable pub excerpt_file : Manner → ℕ → ℕ → List ℕ → Answer (List ℕ)
excerpt_file m first last s =
    unless (leb first last) first_above_last (map_answer (λ t. write_take (excerpt first last t)) (read_take m s))

-- `excerpt_vmd_animation`: its answer, and the output at exit
abbrev pub excerpted_answer : Manner → ℕ → ℕ → List ℕ → List ℕ → Answer ℕ
excerpted_answer m first last s out = map_answer length (fitted (length out) (excerpt_file m first last s))

abbrev pub excerpted_output : Manner → ℕ → ℕ → List ℕ → List ℕ → List ℕ
excerpted_output m first last s out = left out (fitted (length out) (excerpt_file m first last s))

-- `excerpt_vmd_size`: how long the output has to be; 13 where no output is that long, since its length has 64 bits
abbrev pub excerpt_size : Manner → ℕ → ℕ → List ℕ → Answer ℕ
excerpt_size m first last s = map_answer length (fitted 18446744073709551615 (excerpt_file m first last s))
