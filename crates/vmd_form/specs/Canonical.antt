-- Whether saving would leave a file as it is, and what it would touch first, in a manner of reading: 02 l). Definitions only.
use Rattle.std.specs.Prelude.{ℕ, suc, Bool, true, false, List, [], ◌∷◌, eqb}
use Rattle.vmd_format.specs.Answer.{Answer, map_answer}
use Rattle.vmd_format.specs.Read.{Manner}
use Rattle.vmd_format.specs.Take.{same}
use Rattle.vmd_format.specs.Join.{export_file}

-- "A refused file gets its number. It is yes exactly when the file is accepted and equals its export."
unfoldable pub canonical : Manner → List ℕ → Answer Bool
canonical m s = map_answer (same s) (export_file m s)

-- where two first differ or just one of them has ended: nowhere, or at a place
pub data Change : Type 0 where
  nowhere : Change
  at_place : ℕ → Change

unfoldable pub change_if : Bool → ℕ → Change → Change
change_if true n c = c
change_if false n c = at_place n

-- the same of two whose first bytes stand at place n
unfoldable pub change_from : ℕ → List ℕ → List ℕ → Change
change_from n [] [] = nowhere
change_from n [] (b ∷ e) = at_place n
change_from n (a ∷ s) [] = at_place n
change_from n (a ∷ s) (b ∷ e) = change_if (eqb a b) n (change_from (suc n) s e)

-- what saving would touch first: where a file and its export first differ or just one of them has ended
unfoldable pub first_change : Manner → List ℕ → Answer Change
first_change m s = map_answer (change_from 0 s) (export_file m s)
