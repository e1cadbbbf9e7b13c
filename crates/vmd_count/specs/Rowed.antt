-- What `Held` says of a section, in the words of a `VmdRows`; a floor or a ceiling is the name of a record, or none. Definitions
-- only.
use Rattle.std.specs.Prelude.{ℕ, suc, Option, None, Some}
use Rattle.vmd_keys.specs.declared.VmdRows.{VmdRows}
use Rattle.vmd_count.specs.Held.{name_length, Tallied}

-- the number that `Held` has for a floor or a ceiling: a record's number and 1, or 0 for none
abbrev pub bound : Option ℕ → ℕ
bound None = 0
bound (Some g) = suc g

-- how many bytes the name of record i has
abbrev pub row_length : VmdRows → ℕ → ℕ
row_length r = name_length r.cut r.file.now r.place r.size r.count

abbrev pub RowTallied : VmdRows → ℕ → ℕ → ℕ → ℕ → Type 0
RowTallied r = Tallied r.cut r.file.now r.place r.size r.count
