-- Name tables: 02 a), "Name tables hold distinct raw names in order of first appearance, and each record gets its index."
-- Definitions only.
use Rattle.std.specs.Prelude.{ℕ, suc, ◌+◌, Bool, true, false, List, [], ◌∷◌, map, length}
use Rattle.vmd_format.specs.Read.{write_all}
use Rattle.vmd_format.specs.Take.{same}
use Rattle.vmd_format.specs.Parts.{NameTable}
use Rattle.vmd_keys.specs.Names.{distinct}

-- names one after another
unfoldable pub joined : List (List ℕ) → List ℕ
joined l = write_all (λ n. n) l

-- where each ends, the first of them beginning at a place
unfoldable pub ends_from : ℕ → List (List ℕ) → List ℕ
ends_from at [] = []
ends_from at (n ∷ l) = (at + length n) ∷ ends_from (at + length n) l

-- the table that holds these names
unfoldable pub table_of_names : List (List ℕ) → NameTable
table_of_names l = record { bytes = joined l; ends = ends_from 0 l }

-- the number of a name among others
unfoldable pub index_if : Bool → ℕ → ℕ
index_if true i = 0
index_if false i = suc i

unfoldable pub index_of : List ℕ → List (List ℕ) → ℕ
index_of n [] = 0
index_of n (m ∷ l) = index_if (same n m) (index_of n l)

-- the table of the names of some records, and each record's index in it
unfoldable pub name_table : List (List ℕ) → NameTable
name_table l = table_of_names (distinct l)

unfoldable pub name_indices : List (List ℕ) → List ℕ
name_indices l = map (λ n. index_of n (distinct l)) l
