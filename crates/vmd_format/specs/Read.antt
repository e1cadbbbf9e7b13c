-- Reading from the front of the bytes that are left: a value and the bytes after it, or a refusal. Definitions only.
use Rattle.std.specs.Prelude.{ℕ, zero, suc, ◌*◌, Bool, true, false, List, [], ◌∷◌, ◌++◌, length, drop, leb}
use Rattle.vmd_format.specs.Bytes.{u32, u32_bytes}
use Rattle.vmd_format.specs.Layout.{Layout}
use Rattle.vmd_format.specs.Refusal.{Refusal, file_ends_early, bytes_over, count_oversized}

pub data Step (A : Type 0) : Type 0 where
  refused : Refusal → Step A
  got : A → List ℕ → Step A

abbrev pub Reader : Type 0 → Type 0
Reader A = List ℕ → Step A

unfoldable pub bind : {A B : Type 0} → Step A → (A → Reader B) → Step B
bind (refused k) f = refused k
bind (got a s) f = f a s

infixl 20 ◌>>=◌
abbrev pub ◌>>=◌ : {A B : Type 0} → Reader A → (A → Reader B) → Reader B
(m >>= f) s = bind (m s) f

-- what is read and written one after another in a section, each in at least so many bytes
pub record Codec (A : Type 0) : Type 0 where
  pub least : ℕ
  pub read : Reader A
  pub write : A → List ℕ

-- a value of one size, refused where the file ends early
unfoldable pub whole_if : {A : Type 0} → Bool → Layout A → Reader A
whole_if true K s = got (K.decode s) (drop K.size s)
whole_if false K s = refused file_ends_early

unfoldable pub whole : {A : Type 0} → Layout A → Reader A
whole K s = whole_if (leb K.size (length s)) K s

unfoldable pub fixed : {A : Type 0} → Layout A → Codec A
fixed K = record { least = K.size; read = whole K; write = K.encode }

-- n values, one after another
unfoldable pub many : {A : Type 0} → Reader A → ℕ → Reader (List A)
many r zero s = got [] s
many r (suc n) s = bind (r s) (λ a t. bind (many r n t) (λ l u. got (a ∷ l) u))

-- n records of one layout, back to back, where the bytes reach
unfoldable pub table : {A : Type 0} → Layout A → ℕ → List ℕ → List A
table K zero s = []
table K (suc n) s = K.decode s ∷ table K n (drop K.size s)

-- a section: the bytes just after its count, none where it is missing or emptied, and its records
pub record Section (A : Type 0) : Type 0 where
  pub start : List ℕ
  pub items : List A

unfoldable pub no_section : {A : Type 0} → Section A
no_section = record { start = []; items = [] }

-- what becomes of an oversized count (document 01's term), one whose records exceed the bytes left: it is refused, or the
-- section is emptied: "that section is empty, the reader goes to the end"
pub data Oversized : Type 0 where
  refuse : Refusal → Oversized
  emptied : Oversized

-- what becomes of bytes after the last property frame
pub data BytesOver : Type 0 where
  ignored : BytesOver
  turned_down : Refusal → BytesOver

-- The manner of reading a file: what an oversized camera, light or self-shadow count does, and what bytes over do.
pub record Manner : Type 0 where
  pub oversized : Oversized
  pub over : BytesOver

-- "A camera, light or self-shadow count that exceeds the bytes left is accepted"; "Bytes after the last property frame are
-- ignored."
unfoldable pub lenient : Manner
lenient = record { oversized = emptied; over = ignored }

-- 02 i): "16 bytes after the last property frame, or after its count of 0; 17 an oversized camera, light or self-shadow count;
-- both as met in the file". Every call that reads a whole take without a named manner reads so.
unfoldable pub strict : Manner
strict = record { oversized = refuse count_oversized; over = turned_down bytes_over }

unfoldable pub over_count : {A : Type 0} → Oversized → Step (Section A)
over_count (refuse k) = refused k
over_count emptied = got no_section []

unfoldable pub records_if : {A : Type 0} → Bool → Oversized → Codec A → ℕ → Reader (Section A)
records_if true o C n s = bind (many C.read n s) (λ l t. got (record { start = s; items = l }) t)
records_if false o C n s = over_count o

unfoldable pub counted_if : {A : Type 0} → Bool → Oversized → Codec A → Reader (Section A)
counted_if true o C s = records_if (leb (u32 s * C.least) (length (drop 4 s))) o C (u32 s) (drop 4 s)
counted_if false o C s = refused file_ends_early

-- "each a u32 count, then records"; "One to three bytes left is refusal 1"; a count is tested at its records' least size first
unfoldable pub counted : {A : Type 0} → Oversized → Codec A → Reader (Section A)
counted o C s = counted_if (leb 4 (length s)) o C s

-- "At any later count, no bytes left means that this section and all after it are empty."
unfoldable pub optional : {A : Type 0} → Reader (Section A) → Reader (Section A)
optional r [] = got no_section []
optional r (b ∷ s) = r (b ∷ s)

unfoldable pub write_all : {A : Type 0} → (A → List ℕ) → List A → List ℕ
write_all w [] = []
write_all w (a ∷ l) = w a ++ write_all w l

unfoldable pub write_counted : {A : Type 0} → Codec A → List A → List ℕ
write_counted C l = u32_bytes (length l) ++ write_all C.write l
