-- How long the table of a section's names can be. Assumes nothing.
use Prim.Native.Nat.{ℕ, zero, suc, ◌+◌, ◌*◌, ◌≤◌}
use mathlib.Core.Path.{◌≡◌}
use mathlib.Core.Bool.{true, ◌&&◌}
use mathlib.Core.List.{List, [], ◌∷◌, map}
use native.Mathlib.Omega.{arith}
use borrow.Author.Tests.{leb-true, le-leb}
use lib.ListN.{length, length-append}
use lib.Dec.{leb}
use Rattle.vmd_laws.specs.BytesLaws.{Bytes}
use Rattle.vmd_format.specs.Read.{write_all}
use Rattle.vmd_laws.specs.ReadLaws.{All}
use Rattle.vmd_format.specs.Parts.{upto}
use Rattle.vmd_keys.specs.Names.{name_in, names_in, distinct}
use Rattle.vmd_keys.proofs.KeyLaws.{name_short}
use Rattle.vmd_count.specs.DistinctLaws.{all_distinct, distinct_short}
use Rattle.vmd_tables.specs.Tables.{joined, table_of_names, name_table}
use Rattle.vmd_tables.proofs.TableLaws.{names_count}
use Rattle.vmd_tables.proofs.TableMeaning.{table_count}
use Rattle.vmd_split.specs.Stages.{table_room}
use Rattle.vmd_split.proofs.Room.{both}

all_short : (s : List ℕ) → Bytes s → (at size i n : ℕ) → All (λ d. length d ≤ 15) (map (λ i. name_in s (at + size * i)) (upto i n))
unfolding upto
all_short s b at size i zero = tt
all_short s b at size i (suc n) = (name_short s b (at + size * i), all_short s b at size (suc i) n)

joined_short : (l : List (List ℕ)) → All (λ d. length d ≤ 15) l → length (joined l) ≤ 15 * length l
unfolding joined write_all
joined_short [] h = omega arith
joined_short (d ∷ l) h = simp length-append (omega (arith, h.0, joined_short l h.1))

module _ (s : List ℕ) (at size n : ℕ) where
  pub few_names : length (name_table (names_in s at size n)).ends ≤ n
  few_names = omega (arith, table_count (names_in s at size n), distinct_short (names_in s at size n), names_count s at size n)

  pub few_bytes : Bytes s → length (name_table (names_in s at size n)).bytes ≤ 15 * n
  unfolding name_table table_of_names names_in
  few_bytes b =
      let l = names_in s at size n in
      omega (arith, joined_short (distinct l) (all_distinct (λ d. length d ≤ 15) l (all_short s b at size 0 n)), distinct_short l, names_count s at size n)

  -- a table that has room for any n names
  pub always_room : Bytes s → (bytes ends : ℕ) → (leb n ends && leb (15 * n) bytes && leb (15 * n) 4294967295) ≡ true
      → true ≡ table_room (name_table (names_in s at size n)) bytes ends
  unfolding table_room
  always_room b bytes ends e =
      let p = both e in
      let q = both p.0 in
      let t = name_table (names_in s at size n) in
      let x = leb-true (15 * n) 4294967295 p.1 in
      let y = leb-true (15 * n) bytes q.1 in
      let z = leb-true n ends q.0 in
      rw (le-leb (length t.bytes) 4294967295 (omega (arith, few_bytes b)), le-leb (length t.bytes) bytes (omega (arith, few_bytes b)), le-leb (length t.ends) ends (omega (arith, few_names)))
