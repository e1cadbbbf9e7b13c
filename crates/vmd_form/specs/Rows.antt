-- The canonical bytes of records one after another, each from the place of its bytes in the file, as code goes. RowLaws shows
-- that these are the bytes that export writes; nothing here has to be believed.
use Rattle.std.specs.Prelude.{ℕ, zero, suc, ◌+◌, ◌-◌, List, [], ◌∷◌, ◌++◌, get_or, take, drop}
use Rattle.vmd_format.specs.Bytes.{before_zero, padded, is_set, flag_byte}

-- n rows of w bytes from a place on, each told by its place
unfoldable pub rows : (ℕ → List ℕ) → ℕ → ℕ → ℕ → List ℕ
rows f w zero at = []
rows f w (suc n) at = f at ++ rows f w n (at + w)

-- the field of w bytes at a place, in canonical form, and a flag byte
abbrev pub name_field : List ℕ → ℕ → ℕ → List ℕ
name_field s w at = padded w (before_zero (take w (drop at s)))

abbrev pub flag_field : List ℕ → ℕ → List ℕ
flag_field s at = flag_byte (is_set (get_or s at 0)) ∷ []

-- a record of w bytes that begins with a name; a camera; an IK state
unfoldable pub named_row : List ℕ → ℕ → ℕ → List ℕ
named_row s w at = name_field s 15 at ++ take (w - 15) (drop (at + 15) s)

unfoldable pub camera_row : List ℕ → ℕ → List ℕ
camera_row s at = take 60 (drop at s) ++ flag_field s (at + 60)

unfoldable pub ik_row : List ℕ → ℕ → List ℕ
ik_row s at = name_field s 20 at ++ flag_field s (at + 20)
