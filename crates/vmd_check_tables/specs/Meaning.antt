-- A name table. Definitions only.
use Rattle.std.specs.Prelude.{List, ℕ}
use Rattle.vmd_format.specs.Parts as format
use Rattle.vmd_check_tables.specs.declared.VmdNameTable.{VmdNameTable}

-- a name table
abbrev pub table_of : List ℕ → List ℕ → format.NameTable
table_of s l = record { bytes = s; ends = l }

abbrev pub table_is : VmdNameTable → format.NameTable
table_is t = table_of t.bytes.now t.ends.now
