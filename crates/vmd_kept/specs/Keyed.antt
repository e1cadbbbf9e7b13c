-- The records that are counted, in one word each. Definitions only.
use Rattle.std.specs.Prelude.{ℕ, List, length}
use Rattle.vmd_sort.specs.Order.{key}
use Rattle.vmd_sort.specs.Ranking.{places_in}
use Rattle.vmd_kept.specs.declared.Keyed.{Keyed}

-- the key of a place
abbrev pub kept_key : Keyed → ℕ → ℕ
kept_key k = key k.order k.run.file.now

-- where the records stand
abbrev pub kept_places : Keyed → List ℕ
kept_places k = places_in k.run

-- above every place
abbrev pub file_end : Keyed → ℕ
file_end k = length k.run.file.now
