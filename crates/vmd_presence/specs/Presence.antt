-- The presence table of request h): "353 words of 32 bits, one bit for each of 11,280 pointers, lowest first, set exactly where
-- the index has an entry". Definitions only.
use Rattle.std.specs.Prelude.{ℕ, ◌<◌, ◌/◌, ◌%◌, ◌^◌, ◌≡◌, Bool, List, length, get_or, eqb}
use Rattle.vmd_format.specs.Characters.{in_index}

-- the bit of a pointer, "lowest first"
unfoldable pub bit : List ℕ → ℕ → Bool
bit words p = eqb (get_or words (p / 32) 0 / 2 ^ (p % 32) % 2) 1

-- "353 words", a bit set "exactly where the index has an entry", and none past the last pointer
pub record Presence (words : List ℕ) : Type 0 where
  pub long : length words ≡ 353
  pub bits : (p : ℕ) → p < 11296 → bit words p ≡ in_index p
