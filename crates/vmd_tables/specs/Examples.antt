-- A small example, computed: four records, two of them of one name and one with no name.
use Rattle.std.specs.Prelude.{ℕ, ◌≡◌, refl, List, [], ◌∷◌}
use Rattle.vmd_format.specs.Read.{write_all}
use Rattle.vmd_format.specs.Take.{same}
use Rattle.vmd_keys.specs.Names.{keep_if, select, distinct}
use Rattle.vmd_tables.specs.Tables.{joined, ends_from, table_of_names, index_if, index_of, name_table, name_indices}

abbrev named : List (List ℕ)
named = (66 ∷ 65 ∷ []) ∷ (65 ∷ []) ∷ (66 ∷ 65 ∷ []) ∷ [] ∷ []

opened : Unit {0}
unfolding keep_if select distinct same write_all joined ends_from table_of_names index_if index_of name_table name_indices
opened = tt

example_table : name_table named ≡ record { bytes = 66 ∷ 65 ∷ 65 ∷ []; ends = 2 ∷ 3 ∷ 3 ∷ [] }
unfolding opened
example_table = refl

example_indices : name_indices named ≡ 0 ∷ 1 ∷ 0 ∷ 2 ∷ []
unfolding opened
example_indices = refl
