-- Columns out of a section: so many numbers, or bytes, of each record, one record after another. Definitions only.
use Rattle.std.specs.Prelude.{ℕ, zero, suc, ◌+◌, List, [], ◌∷◌, ◌++◌, drop}
use Rattle.vmd_format.specs.Bytes.{u32}

-- w numbers one after another from a place on
unfoldable pub numbers_at : List ℕ → ℕ → ℕ → List ℕ
numbers_at s zero at = []
numbers_at s (suc w) at = u32 (drop at s) ∷ numbers_at s w (at + 4)

-- what `cells` gives at each of n places, the first at a place and each next one so much further on
unfoldable pub column : (ℕ → List ℕ) → ℕ → ℕ → ℕ → List ℕ
column cells at size zero = []
column cells at size (suc n) = cells at ++ column cells (at + size) size n
