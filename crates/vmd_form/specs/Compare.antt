-- A file compared with bytes that are to stand at a place of it, piece after piece, as code goes. CompareLaws shows that this
-- finds the first change; nothing here has to be believed.
use Rattle.std.specs.Prelude.{ℕ, suc, Bool, true, false, List, [], ◌∷◌, eqb, leb, drop}
use Rattle.vmd_form.specs.Canonical.{Change, nowhere, at_place}

-- they stand there, and the place after them; or the first place at which they do not
pub data Compared : Type 0 where
  agrees : ℕ → Compared
  differs : ℕ → Compared

unfoldable pub compare_if : Bool → ℕ → Compared → Compared
compare_if true at c = c
compare_if false at c = differs at

-- what is left of a file from a place on, and the bytes that are to stand there
unfoldable pub compare : ℕ → List ℕ → List ℕ → Compared
compare at s [] = agrees at
compare at [] (b ∷ v) = differs at
compare at (a ∷ s) (b ∷ v) = compare_if (eqb a b) at (compare (suc at) s v)

abbrev pub compare_at : List ℕ → ℕ → List ℕ → Compared
compare_at s at v = compare at (drop at s) v

-- the next piece is compared where the one before stands
unfoldable pub and_next : Compared → (ℕ → Compared) → Compared
and_next (agrees at) f = f at
and_next (differs at) f = differs at

-- the first change in a file that ends at a place, once all bytes that are to stand in it have been compared
unfoldable pub change_over : Bool → ℕ → Change
change_over true at = nowhere
change_over false at = at_place at

unfoldable pub change_at : ℕ → Compared → Change
change_at end (agrees at) = change_over (leb end at) at
change_at end (differs at) = at_place at
