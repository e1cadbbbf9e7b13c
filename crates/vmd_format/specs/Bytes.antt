-- Numbers, names, padding and flags in bytes. Definitions only; a byte is a number below 256.
use Rattle.std.specs.Prelude.{ℕ, zero, suc, ◌+◌, ◌*◌, ◌/◌, ◌%◌, Bool, true, false, not, List, [], ◌∷◌, get_or, eqb}

-- "All integers and floats in a file are little-endian. u32 is a 32-bit unsigned number." A missing byte counts as 0.
unfoldable pub u32 : List ℕ → ℕ
u32 s = get_or s 0 0 + 256 * get_or s 1 0 + 65536 * get_or s 2 0 + 16777216 * get_or s 3 0

unfoldable pub u32_bytes : ℕ → List ℕ
u32_bytes n = n % 256 ∷ n / 256 % 256 ∷ n / 65536 % 256 ∷ n / 16777216 % 256 ∷ []

-- "A name ends before its first zero byte, or fills its field. An empty name is accepted."
unfoldable pub before_zero : List ℕ → List ℕ
before_zero [] = []
before_zero (zero ∷ s) = []
before_zero (suc b ∷ s) = suc b ∷ before_zero s

-- "names padded with zeros": the first n bytes, with zeros after them where there are fewer
unfoldable pub padded : ℕ → List ℕ → List ℕ
padded zero s = []
padded (suc n) [] = 0 ∷ padded n []
padded (suc n) (b ∷ s) = b ∷ padded n s

-- "Property visible and IK enabled are true when their byte is not 0"; "flags as 0 or 1"
unfoldable pub is_set : ℕ → Bool
is_set b = not (eqb b 0)

unfoldable pub flag_byte : Bool → ℕ
flag_byte true = 1
flag_byte false = 0

-- "Camera perspective is true when its byte is 0, false otherwise"; "perspective true is 0"
unfoldable pub is_zero : ℕ → Bool
is_zero b = eqb b 0

unfoldable pub inverted_byte : Bool → ℕ
inverted_byte true = 0
inverted_byte false = 1
