-- A name field that is written piece by piece. Definitions only.
use Rattle.std.specs.Prelude.{ℕ, zero, suc, Bool, true, false, cond, List, [], ◌∷◌, length, replicate, ◌==◌}
use Rattle.vmd_format.specs.Bytes.{before_zero, padded}

-- whether no byte is zero
unfoldable pub no_zero : List ℕ → Bool
no_zero [] = true
no_zero (zero ∷ l) = false
no_zero (suc b ∷ l) = no_zero l

-- The canonical bytes of a piece of a name field: while the name goes on, those before the first zero and then zeros; after
-- its end, zeros.
unfoldable pub canonical : Bool → List ℕ → List ℕ
canonical true l = padded (length l) (before_zero l)
canonical false l = replicate (length l) 0

-- A byte of a name, or zero for a line feed: up to its first zero the field then holds the name up to its first line feed.
unfoldable pub blank : ℕ → ℕ
blank b = cond (b == 10) 0 b
