-- Parts of a file: where names and interpolation bytes stand, and how many bytes they are. Definitions only.
use Rattle.std.specs.Prelude.{ℕ, zero, suc, ◌+◌, ◌≤◌, ◌≡◌, List, length, take, drop}
use Rattle.vmd_format.specs.Bytes.{before_zero}
use Rattle.vmd_format.specs.Answer.{Answer, declined, given, map_answer}
use Rattle.vmd_format.specs.Fetch.{or_empty}
use Rattle.vmd_base.specs.declared.VmdPart.{VmdPart}

-- so many bytes from a place on; 0 and 0 where there are none
unfoldable pub file_part : ℕ → ℕ → VmdPart
file_part at zero = record { at = 0; len = 0 }
file_part at (suc n) = record { at = at; len = suc n }

-- the part that these bytes of a record are, so far into it, where the record stands at a place
unfoldable pub part_in : Answer ℕ → ℕ → List ℕ → VmdPart
part_in (declined k) offset l = record { at = 0; len = 0 }
part_in (given at) offset l = file_part (at + offset) (length l)

-- such a part names these bytes of the file
pub record Cuts (s : List ℕ) (p : VmdPart) (bytes : List ℕ) : Type 0 where
  pub inside : p.at + p.len ≤ length s
  pub named : take p.len (drop p.at s) ≡ bytes

-- the name in a field of so many bytes
unfoldable pub name_in : ℕ → List ℕ → List ℕ
name_in width t = before_zero (take width t)

-- what h takes of the bytes so far into the record that stands at a place
unfoldable pub there : (List ℕ → List ℕ) → ℕ → Answer ℕ → List ℕ → List ℕ
there h offset x s = or_empty (map_answer (λ at. h (drop (at + offset) s)) x)
