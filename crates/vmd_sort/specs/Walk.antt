-- Where the records of a section stand, one after another. Definitions only.
use Rattle.std.specs.Prelude.{ℕ, zero, suc, ◌+◌, List, [], ◌∷◌}
use Rattle.vmd_format.specs.Fetch.{next_frame}
use Rattle.vmd_records.specs.Kinds.{size_of}
use Rattle.vmd_sort.specs.Order.{there}
use Rattle.vmd_sort.specs.declared.VmdStride.{VmdStride}
use Rattle.vmd_sort.specs.declared.VmdStride.TheVariants as stride

-- the place after a record of one size, or, for size 0, after a property frame with its IK states
unfoldable pub step : List ℕ → ℕ → ℕ → ℕ
step s zero p = next_frame s p
step s (suc k) p = p + suc k

-- the size by which `step` knows what stands there
abbrev pub width : VmdStride → ℕ
width (stride.Records k) = size_of k
width stride.PropertyFrames = 0

-- n places from one on, each found from the one before, and the place after them
unfoldable pub places_by : (ℕ → ℕ) → ℕ → ℕ → List ℕ
places_by next zero at = []
places_by next (suc n) at = at ∷ places_by next n (next at)

unfoldable pub end_by : (ℕ → ℕ) → ℕ → ℕ → ℕ
end_by next zero at = at
end_by next (suc n) at = end_by next n (next at)

-- how many IK states the property frame at a place says that it has
unfoldable pub states_there : List ℕ → ℕ → ℕ
states_there s p = there s (p + 5)

-- a sum over places
unfoldable pub total : (ℕ → ℕ) → List ℕ → ℕ
total w [] = 0
total w (p ∷ l) = w p + total w l
