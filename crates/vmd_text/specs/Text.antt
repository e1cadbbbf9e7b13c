-- Numbers and texts in ASCII. Definitions only.
use Rattle.std.specs.Prelude.{ℕ, zero, suc, ◌+◌, ◌/◌, ◌%◌, Bool, true, false, List, [], ◌∷◌, ◌++◌, ltb}
use Prim.Native.Char.{code}
use Prim.Native.String.{String}

-- ---- numbers

-- the digits before the last: none where the number is below ten
unfoldable pub tens_if : Bool → List ℕ → List ℕ
tens_if true l = []
tens_if false l = l

-- the decimal digits of n, the most significant first, at most so many
unfoldable pub digits : ℕ → ℕ → List ℕ
digits zero n = []
digits (suc most) n = tens_if (ltb n 10) (digits most (n / 10)) ++ ((48 + n % 10) ∷ [])

-- all of them: "0" for 0, and no leading zeros
unfoldable pub decimal : ℕ → List ℕ
decimal n = digits (suc n) n

-- each number on a line
unfoldable pub number_lines : List ℕ → List ℕ
number_lines [] = []
number_lines (n ∷ l) = decimal n ++ (10 ∷ number_lines l)

-- ---- texts

-- the codes of a text's characters; its bytes, where it is ASCII
unfoldable pub text : String → List ℕ
text String.[] = []
text (String.◌∷◌ c s) = code c ∷ text s
