-- Laws of columns: how long they are, and those of a section's records. Assumes nothing.
use Rattle.std.specs.Prelude.{ℕ, zero, suc, ◌+◌, ◌*◌, ◌≤◌, ◌≡◌, refl, List, [], ◌∷◌, ◌++◌, map, length, drop}
use Rattle.std.proofs.Common.{ap, ap₂, ◌∙◌, add_assoc, arith, length-append, length-take, length-drop, drop-drop}
use Rattle.vmd_format.specs.Bytes.{u32}
use Rattle.vmd_format.specs.Layout.{Layout, number, name, raw, ◌⊗◌, as_record}
use Rattle.vmd_format.specs.Read.{table, write_all}
use Rattle.vmd_format.specs.Records.{bone, morph}
use Rattle.vmd_laws.specs.SizedLaws.{Sized, bone_sized, morph_sized}
use Rattle.vmd_bytes.specs.Slices.{run}
use Rattle.vmd_columns.specs.Columns.{numbers_at, column}

-- ---- lengths

-- each cell that has k bytes before m is w long
pub record Wide (cells : ℕ → List ℕ) (k m w : ℕ) : Type 0 where
  pub wide : (p : ℕ) → p + k ≤ m → length (cells p) ≡ w

pub numbers_length : (s : List ℕ) (w at : ℕ) → length (numbers_at s w at) ≡ w
unfolding numbers_at
numbers_length s zero at = refl
numbers_length s (suc w) at = ap suc (numbers_length s w (at + 4))

pub numbers_wide : (s : List ℕ) (w : ℕ) → Wide (numbers_at s w) (4 * w) (length s) w
numbers_wide s w = record { wide = λ p h. numbers_length s w p }

pub run_wide : (s : List ℕ) (w : ℕ) → Wide (λ p. run s p w) w (length s) w
unfolding run
run_wide s w = record { wide = λ (p : ℕ) (h : p + w ≤ length s). simp (length-take, length-drop) (omega arith) }

-- a column of n records of a size that lie before m
pub column_length : {cells : ℕ → List ℕ} {k m w : ℕ} → Wide cells k m w → (at offset size n : ℕ)
    → offset + k ≤ size → at + size * n ≤ m → length (column cells (at + offset) size n) ≡ w * n
unfolding column
column_length c at offset size zero h r = omega arith
column_length {cells} {k} {m} {w} c at offset size (suc n) h r =
    let e : at + offset + size ≡ at + size + offset = omega arith in
    let more = column_length c (at + size) offset size n h (omega arith) in
    length-append (cells (at + offset)) (column cells (at + offset + size) size n)
    ∙ ap (λ (p : ℕ). length (cells (at + offset)) + length (column cells p size n)) e
    ∙ omega (arith, c.wide (at + offset) (omega arith), more)

-- the same where each cell is w long wherever it is
pub even_column_length : (cells : ℕ → List ℕ) {w : ℕ} → ((p : ℕ) → length (cells p) ≡ w) → (at size n : ℕ)
    → length (column cells at size n) ≡ w * n
even_column_length cells h at size n =
    ap (λ (p : ℕ). length (column cells p size n)) (omega arith)
    ∙ column_length {cells = cells} {k = 0} {m = at + size * n} (record { wide = λ p k. h p }) at 0 size n (omega arith) (omega arith)

pub numbers_column_length : (s : List ℕ) (w at size n : ℕ) → length (column (numbers_at s w) at size n) ≡ w * n
numbers_column_length s w at size n = even_column_length (numbers_at s w) (numbers_length s w) at size n

pub run_column_length : (s : List ℕ) (w at offset size n : ℕ) → offset + w ≤ size → at + size * n ≤ length s
    → length (column (λ p. run s p w) (at + offset) size n) ≡ w * n
run_column_length s w at offset size n = column_length (run_wide s w) at offset size n

-- ---- columns of a section

-- A field of n records of a size from a place on, where it is the cell so far into each record.
pub section_column : {A : Type 0} {K : Layout A} {size : ℕ} → Sized K size
    → (field : A → List ℕ) (cells : ℕ → List ℕ) (s : List ℕ) (offset : ℕ) → ((p : ℕ) → field (K.decode (drop p s)) ≡ cells (p + offset)) → (n at : ℕ)
    → write_all field (table K n (drop at s)) ≡ column cells (at + offset) size n
unfolding table write_all column
section_column k field cells s offset h zero at = refl
section_column {K = K} {size} k field cells s offset h (suc n) at =
    let d : drop K.size (drop at s) ≡ drop (at + size) s = rw (k.size, drop-drop) in
    let e : at + size + offset ≡ at + offset + size = omega arith in
    ap₂ ◌++◌ (h at)
    (ap (λ (t : List ℕ). write_all field (table K n t)) d ∙ section_column k field cells s offset h n (at + size)
    ∙ ap (λ (p : ℕ). column cells p size n) e)

singles : {A : Type 0} (f : A → ℕ) (l : List A) → map f l ≡ write_all (λ a. f a ∷ []) l
unfolding write_all
singles f [] = refl
singles f (a ∷ l) = ap (λ (t : List ℕ). f a ∷ t) (singles f l)

-- one number of each record
pub section_numbers : {A : Type 0} {K : Layout A} {size : ℕ} → Sized K size → (f : A → ℕ) (s : List ℕ) (offset : ℕ)
    → ((p : ℕ) → f (K.decode (drop p s)) ≡ u32 (drop (p + offset) s)) → (n at : ℕ)
    → map f (table K n (drop at s)) ≡ column (numbers_at s 1) (at + offset) size n
unfolding numbers_at
section_numbers {K = K} k f s offset h n at =
    singles f (table K n (drop at s))
    ∙ section_column k (λ a. f a ∷ []) (numbers_at s 1) s offset (λ p. ap (λ (v : ℕ). v ∷ []) (h p)) n at

module _ (s : List ℕ) (n at : ℕ) where
  pub bone_frames : map (λ b. b.frame) (table bone n (drop at s)) ≡ column (numbers_at s 1) (at + 15) 111 n
  unfolding bone as_record ◌⊗◌ name number raw
  bone_frames = section_numbers bone_sized (λ b. b.frame) s 15 (λ p. simp drop-drop) n at

  pub bone_translations : write_all (λ b. b.tx ∷ b.ty ∷ b.tz ∷ []) (table bone n (drop at s)) ≡ column (numbers_at s 3) (at + 19) 111 n
  unfolding bone as_record ◌⊗◌ name number raw numbers_at
  bone_translations = section_column bone_sized _ (numbers_at s 3) s 19 (λ p. simp (drop-drop, add_assoc)) n at

  pub bone_rotations : write_all (λ b. b.rx ∷ b.ry ∷ b.rz ∷ b.rw ∷ []) (table bone n (drop at s)) ≡ column (numbers_at s 4) (at + 31) 111 n
  unfolding bone as_record ◌⊗◌ name number raw numbers_at
  bone_rotations = section_column bone_sized _ (numbers_at s 4) s 31 (λ p. simp (drop-drop, add_assoc)) n at

  pub bone_interpolations : write_all (λ b. b.interpolation) (table bone n (drop at s)) ≡ column (λ p. run s p 64) (at + 47) 111 n
  unfolding bone as_record ◌⊗◌ name number raw run
  bone_interpolations = section_column bone_sized _ (λ p. run s p 64) s 47 (λ p. simp (drop-drop, add_assoc)) n at

  pub morph_frames : map (λ m. m.frame) (table morph n (drop at s)) ≡ column (numbers_at s 1) (at + 15) 23 n
  unfolding morph as_record ◌⊗◌ name number
  morph_frames = section_numbers morph_sized (λ m. m.frame) s 15 (λ p. simp drop-drop) n at

  pub morph_weights : map (λ m. m.weight) (table morph n (drop at s)) ≡ column (numbers_at s 1) (at + 19) 23 n
  unfolding morph as_record ◌⊗◌ name number
  morph_weights = section_numbers morph_sized (λ m. m.weight) s 19 (λ p. simp (drop-drop, add_assoc)) n at
