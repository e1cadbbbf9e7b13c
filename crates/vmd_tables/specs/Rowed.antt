-- What `Leading` says of a section, in the words of a `VmdRows`. Definitions only.
use Rattle.std.specs.Prelude.{ℕ, List}
use Rattle.vmd_keys.specs.declared.VmdRows.{VmdRows}
use Rattle.vmd_keys.specs.Names.{names_in, whole}
use Rattle.vmd_keys.specs.Keys.{key}
use Rattle.vmd_tables.specs.Leading.{Numbered}

-- its names as a table has them, byte for byte
abbrev pub raw_names : VmdRows → List (List ℕ)
raw_names r = names_in r.file.now r.place r.size r.count

abbrev pub raw_key : VmdRows → ℕ → ℕ
raw_key r = key whole r.file.now r.place r.size r.count

-- the table and the indices of all records are written
abbrev pub RowsNumbered : VmdRows → ℕ → ℕ → List ℕ → List ℕ → List ℕ → List ℕ → List ℕ → List ℕ → Type 0
RowsNumbered r = Numbered r.file.now r.place r.size r.count
