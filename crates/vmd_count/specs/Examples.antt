-- A small example, computed.
use Rattle.std.specs.Prelude.{ℕ, ◌≡◌, refl, List, [], ◌∷◌, ◌++◌, length}
use Rattle.vmd_format.specs.Bytes.{before_zero}
use Rattle.vmd_format.specs.Take.{same}
use Rattle.vmd_format.specs.Parts.{upto}
use Rattle.vmd_format.specs.Read.{write_all}
use Rattle.vmd_keys.specs.Names.{name_in, names_in, registered_if, registration_name, cut_names, to_line_feed, keep_if, select, distinct}

-- a record of 17 bytes, its name's field from a, b and c on
abbrev entry : ℕ → ℕ → ℕ → List ℕ
entry a b c = a ∷ b ∷ c ∷ 9 ∷ 9 ∷ 9 ∷ 9 ∷ 9 ∷ 9 ∷ 9 ∷ 9 ∷ 9 ∷ 9 ∷ 9 ∷ 9 ∷ 7 ∷ 7 ∷ []

-- what stands after a zero counts for nothing, a line feed does, and no byte at all is a name
abbrev file : List ℕ
file = 1 ∷ 2 ∷ (entry 65 66 0 ++ entry 65 0 66 ++ entry 65 66 0 ++ entry 65 10 0 ++ entry 65 0 67 ++ entry 0 65 66)

opened : Unit {0}
unfolding registered_if registration_name keep_if select distinct same before_zero upto name_in names_in write_all
opened = tt

example : distinct (names_in file 2 17 6) ≡ (65 ∷ 66 ∷ []) ∷ (65 ∷ []) ∷ (65 ∷ 10 ∷ []) ∷ [] ∷ []
unfolding opened
example = refl

-- up to the line feed
example_tracks : distinct (cut_names to_line_feed (names_in file 2 17 6)) ≡ (65 ∷ 66 ∷ []) ∷ (65 ∷ []) ∷ [] ∷ []
unfolding opened
example_tracks = refl

example_counts :
    (length (distinct (names_in file 2 17 6)) ≡ 4) × (length (write_all (λ d. d) (distinct (names_in file 2 17 6))) ≡ 5)
unfolding opened
example_counts = (refl, refl)
