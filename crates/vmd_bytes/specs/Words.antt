-- Bytes held in one number, the lowest first. Definitions only.
use Rattle.std.specs.Prelude.{ℕ, zero, suc, ◌+◌, ◌*◌, ◌/◌, ◌%◌, List, [], ◌∷◌, bit_and, bit_or, bit_xor}

-- the n lowest bytes of v
unfoldable pub digits : ℕ → ℕ → List ℕ
digits zero v = []
digits (suc n) v = v % 256 ∷ digits n (v / 256)

-- n bytes that are all b
unfoldable pub repeated : ℕ → ℕ → ℕ
repeated b zero = 0
repeated b (suc n) = repeated b n * 256 + b

-- 128 in each of the n bytes of x that is zero, 0 in each other
unfoldable pub zeros : ℕ → ℕ → ℕ
unfolding repeated
zeros n x = bit_xor (bit_and (bit_or (bit_and x (repeated 127 n) + repeated 127 n) x) (repeated 128 n)) (repeated 128 n)

-- ones up to the lowest one of m, or in all n bytes where m is zero
unfoldable pub up_to : ℕ → ℕ → ℕ
unfolding repeated
up_to n zero = repeated 255 n
up_to n (suc m) = bit_xor (suc m) m
