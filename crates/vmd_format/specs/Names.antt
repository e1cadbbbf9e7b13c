-- The test of a name's bytes: document 01, "A name's bytes are good when they read left to right as ..", with request h).
-- Definitions only.
use Rattle.std.specs.Prelude.{ℕ, zero, suc, ◌+◌, Bool, ◌&&◌, ◌||◌, cond, List, [], ◌∷◌, length, drop, leb, eqb}
use Rattle.vmd_format.specs.Characters.{between, pointer, character}

-- "0x00 to 0x80, 0xA1 to 0xDF"
unfoldable pub single : ℕ → Bool
single b = leb b 128 || between 161 223 b

-- "a lead (0x81 to 0x9F, 0xE0 to 0xFC)"
unfoldable pub lead : ℕ → Bool
lead b = between 129 159 b || between 224 252 b

-- "a trail (0x40 to 0x7E, 0x80 to 0xFC)"
unfoldable pub trail : ℕ → Bool
trail b = between 64 126 b || between 128 252 b

-- "or a pair of a lead and a trail"; "A pair now needs one [a character]" (02 h)
unfoldable pub pair : ℕ → ℕ → Bool
pair a b = lead a && (trail b && character (pointer a b))

-- how many bytes the good single byte or the good pair at the front has, 0 where there is neither
unfoldable pub unit : List ℕ → ℕ
unit [] = 0
unit (a ∷ []) = cond (single a) 1 0
unit (a ∷ b ∷ s) = cond (single a) 1 (cond (pair a b) 2 0)

-- past what stands at the front, and then on
unfoldable pub past : ℕ → (List ℕ → ℕ) → List ℕ → ℕ
past zero next s = 0
past (suc n) next s = suc n + next (drop (suc n) s)

unfoldable pub fault_within : ℕ → List ℕ → ℕ
fault_within zero s = 0
fault_within (suc n) s = past (unit s) (fault_within n) s

-- the place of the first byte that starts neither a good single byte nor a good pair, or the length where all is good
unfoldable pub fault : List ℕ → ℕ
fault s = fault_within (length s) s

-- good (document 01's term)
unfoldable pub good : List ℕ → Bool
good s = eqb (fault s) (length s)
