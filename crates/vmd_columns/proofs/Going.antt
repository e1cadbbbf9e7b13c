-- Numbers and columns, as code writes them. Assumes nothing.
use Prim.Native.Nat.{ℕ, zero, suc, ◌+◌, ◌*◌, ◌≤◌, ◌<◌}
use mathlib.Core.Path.{◌≡◌, ap, sym, ◌∙◌}
use mathlib.Core.List.{List, [], ◌∷◌, ◌++◌, append-nil}
use native.Mathlib.Numerals.{add-one}
use native.Mathlib.Omega.{arith}
use lib.ListN.{length, set, drop}
use Rattle.vmd_format.specs.Bytes.{u32}
use Rattle.vmd_bytes.specs.Slices.{splice}
use Rattle.std.proofs.Common.{append_assoc}
use Rattle.std.proofs.Math.Nat.{mul-le-mul_left}
use Rattle.vmd_bytes.proofs.Laws.{splice_nil, splice_snoc_at, splice_append_at}
use Rattle.vmd_columns.specs.Columns.{numbers_at, column}
use Rattle.vmd_columns.specs.ColumnLaws.{Wide, numbers_length, column_length}

-- ---- numbers one after another

-- one number more
numbers_snoc : (s : List ℕ) (n at : ℕ) → numbers_at s (suc n) at ≡ numbers_at s n at ++ (u32 (drop (at + 4 * n) s) ∷ [])
unfolding numbers_at
numbers_snoc s zero at = let e : at + 4 * 0 ≡ at = omega arith in rw e
numbers_snoc s (suc n) at =
    let e : at + 4 + 4 * n ≡ at + 4 * suc n = omega arith in
    ap (λ (t : List ℕ). u32 (drop at s) ∷ t)
    (numbers_snoc s n (at + 4) ∙ ap (λ (p : ℕ). numbers_at s n (at + 4) ++ (u32 (drop p s) ∷ [])) e)

-- none is written yet
pub numbers_start : (s l : List ℕ) (at to : ℕ) → l ≡ splice l to (numbers_at s 0 at)
unfolding numbers_at
numbers_start s l at to = sym (splice_nil l to)

-- the next is stored where they end
pub numbers_turn : {x : List ℕ} {v : ℕ} (s l : List ℕ) (at to i : ℕ) → to + i < length l → x ≡ splice l to (numbers_at s i at)
    → v ≡ u32 (drop (at + 4 * i) s) → set x (to + i) v ≡ splice l to (numbers_at s (i + 1) at)
numbers_turn s l at to i h e f =
    rw (e, f) (splice_snoc_at l to (numbers_at s i at) i _ (numbers_length s i at) h
    ∙ ap (splice l to) (sym (numbers_snoc s i at)) ∙ ap (λ (n : ℕ). splice l to (numbers_at s n at)) (sym (add-one i)))

-- ---- a column

-- below n, one k more still lies among n of them
pub one_more : {i n : ℕ} (k : ℕ) → i < n → k * i + k ≤ k * n
one_more {i} {n} k h = omega (arith, mul-le-mul_left {m = i + 1} {n = n} k (omega arith))

-- one cell more
column_snoc : (cells : ℕ → List ℕ) (n at size : ℕ) → column cells at size (suc n) ≡ column cells at size n ++ cells (at + size * n)
unfolding column
column_snoc cells zero at size = let e : at + size * 0 ≡ at = omega arith in rw (append-nil, e)
column_snoc cells (suc n) at size =
    let e : at + size + size * n ≡ at + size * suc n = omega arith in
    rw (append_assoc, ← e) (ap (λ (t : List ℕ). cells at ++ t) (column_snoc cells n (at + size) size))

-- none is written yet
pub column_start : (cells : ℕ → List ℕ) (at size : ℕ) (l : List ℕ) → l ≡ splice l 0 (column cells at size 0)
unfolding column
column_start cells at size l = sym (splice_nil l 0)

-- the cells so far into i records were written, and then the next one's
pub column_turn : {cells : ℕ → List ℕ} {k m w : ℕ} {x y : List ℕ} → Wide cells k m w
    → (l : List ℕ) (at offset size i n : ℕ) → i < n → offset + k ≤ size → at + size * n ≤ m → w * n ≤ length l
    → x ≡ splice l 0 (column cells (at + offset) size i) → y ≡ splice x (w * i) (cells (at + size * i + offset))
    → y ≡ splice l 0 (column cells (at + offset) size (i + 1))
column_turn {cells} {w = w} c l at offset size i n h o r f e d =
    let a : at + size * i + offset ≡ at + offset + size * i = omega arith in
    let b : 0 + w * i ≤ length l = omega (arith, one_more {i = i} {n = n} w h) in
    let u : length (column cells (at + offset) size i) ≡ w * i = column_length c at offset size i o (omega (arith, one_more {i = i} {n = n} size h)) in
    let z : 0 + w * i ≡ w * i = omega arith in
    let v = rw z at (splice_append_at l 0 (column cells (at + offset) size i) (cells (at + size * i + offset)) (w * i) u b) in
    d ∙ rw (e, v, a, add-one, column_snoc)
