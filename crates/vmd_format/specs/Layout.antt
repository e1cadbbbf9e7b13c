-- A layout: how many bytes a value takes, what its bytes say, and how it is written. Definitions only.
-- A decode takes missing bytes as 0 and looks at no byte past its size.
use Rattle.std.specs.Prelude.{ℕ, ◌+◌, Bool, List, [], ◌∷◌, ◌++◌, get_or, take, drop}
use Rattle.vmd_format.specs.Bytes.{u32, u32_bytes, before_zero, padded, is_set, flag_byte, is_zero, inverted_byte}

pub record Layout (A : Type 0) : Type 0 where
  pub size : ℕ
  pub decode : List ℕ → A
  pub encode : A → List ℕ

-- a u32, or a float: "A float is known by its 32 bits, NaN included."
unfoldable pub number : Layout ℕ
number = record { size = 4; decode = u32; encode = u32_bytes }

unfoldable pub byte : Layout ℕ
byte = record { size = 1; decode = λ s. get_or s 0 0; encode = λ b. b ∷ [] }

unfoldable pub flag : Layout Bool
flag = record { size = 1; decode = λ s. is_set (get_or s 0 0); encode = λ b. flag_byte b ∷ [] }

-- the perspective byte
unfoldable pub inverted : Layout Bool
inverted = record { size = 1; decode = λ s. is_zero (get_or s 0 0); encode = λ b. inverted_byte b ∷ [] }

-- a name in a field of n bytes
unfoldable pub name : ℕ → Layout (List ℕ)
name n = record { size = n; decode = λ s. before_zero (take n s); encode = padded n }

-- n bytes as they are
unfoldable pub raw : ℕ → Layout (List ℕ)
raw n = record { size = n; decode = take n; encode = padded n }

-- one after the other
infixr 60 ◌⊗◌
unfoldable pub ◌⊗◌ : {A B : Type 0} → Layout A → Layout B → Layout (A × B)
K ⊗ L = record {
  size = K.size + L.size;
  decode = λ s. (K.decode s, L.decode (drop K.size s));
  encode = λ p. K.encode p.0 ++ L.encode p.1;
}

-- the same bytes, the fields under names of their own
unfoldable pub as_record : {A B : Type 0} → (A → B) → (B → A) → Layout A → Layout B
as_record f g K = record { size = K.size; decode = λ s. f (K.decode s); encode = λ b. K.encode (g b) }
