-- What the calls that save answer, and what they leave in the output, in a manner of reading. Definitions only.
use Rattle.std.specs.Prelude.{ℕ, List, length}
use Rattle.vmd_format.specs.Answer.{Answer, map_answer, fitted, left}
use Rattle.vmd_format.specs.Read.{Manner}
use Rattle.vmd_format.specs.Join.{export_file, older_file, join_files}

-- `export_vmd_animation`: how many bytes, and the output at exit
abbrev pub exported_answer : Manner → List ℕ → List ℕ → Answer ℕ
exported_answer m s out = map_answer length (fitted (length out) (export_file m s))

abbrev pub exported_output : Manner → List ℕ → List ℕ → List ℕ
exported_output m s out = left out (fitted (length out) (export_file m s))

-- `export_older_vmd_animation`
abbrev pub older_answer : Manner → List ℕ → List ℕ → Answer ℕ
older_answer m s out = map_answer length (fitted (length out) (older_file m s))

abbrev pub older_output : Manner → List ℕ → List ℕ → List ℕ
older_output m s out = left out (fitted (length out) (older_file m s))

-- `join_vmd_animations`
abbrev pub joined_answer : Manner → List ℕ → List ℕ → List ℕ → Answer ℕ
joined_answer m s t out = map_answer length (fitted (length out) (join_files m s t))

abbrev pub joined_output : Manner → List ℕ → List ℕ → List ℕ → List ℕ
joined_output m s t out = left out (fitted (length out) (join_files m s t))

-- How long the output has to be; 13 where no output is that long, since its length has 64 bits.
abbrev pub export_size : Manner → List ℕ → Answer ℕ
export_size m s = map_answer length (fitted 18446744073709551615 (export_file m s))

abbrev pub older_size : Manner → List ℕ → Answer ℕ
older_size m s = map_answer length (fitted 18446744073709551615 (older_file m s))

abbrev pub join_size : Manner → List ℕ → List ℕ → Answer ℕ
join_size m s t = map_answer length (fitted 18446744073709551615 (join_files m s t))
