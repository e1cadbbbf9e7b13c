-- Records at a place, as code writes them: one, a loop over many, and a copy in place of the loop. Assumes nothing.
use Prim.Native.Nat.{ℕ, zero, suc, ◌+◌, ◌*◌, ◌≤◌, ◌<◌}
use Rattle.std.proofs.Common.{add-one, zero-mul}
use Rattle.std.proofs.Math.Nat.{mul-le-mul_right}
use Rattle.vmd_laws.specs.ReadLaws.{write_all_append}
use mathlib.Core.Path.{◌≡◌, ap, sym, ◌∙◌}
use mathlib.Core.List.{List, [], ◌∷◌, ◌++◌, append-nil}
use native.Mathlib.Omega.{arith}
use native.Mathlib.Nat.{add-zero}
use lib.ListN.{length, get_or, set, take, drop, length-drop}
use lib.Seq.{drop-drop, take_at, get_or-drop}
use Rattle.vmd_format.specs.Bytes.{before_zero, padded}
use Rattle.vmd_laws.specs.BytesLaws.{Bytes, bytes_drop}
use Rattle.vmd_format.specs.Layout.{Layout}
use Rattle.vmd_format.specs.Read.{table, write_all}
use Rattle.vmd_laws.specs.Rewriting.{Rewrites}
use Rattle.vmd_laws.specs.SizedLaws.{Sized, section_length, section_stays}
use Rattle.vmd_bytes.specs.Slices.{splice, run}
use Rattle.vmd_bytes.specs.Written.{Room, Wrote}
use Rattle.vmd_bytes.proofs.Laws.{splice_append_at, splice_snoc_at, length_run, name_wider}

-- ---- one record

-- a copy through an array: what is written at its front is what is read there
pub through : {m o : List ℕ} (r s l : List ℕ) (at to n : ℕ) → at + n ≤ length s → m ≡ splice r 0 (run s at n) → o ≡ splice l to (run m 0 n) → o ≡ splice l to (run s at n)
unfolding splice run
through r s l at to n h e f = f ∙ rw (e, take_at (run s at n) (drop (0 + length (run s at n)) r) n (length_run s at n h))

module _ {A : Type 0} {K : Layout A} (s l : List ℕ) (at to : ℕ) (b : Bytes s) where
  rewritten : (w : ℕ) (f : List ℕ → List ℕ) → Rewrites K w f → at + w ≤ length s → K.encode (K.decode (drop at s)) ≡ f (drop at s)
  rewritten w f r h = r.is (drop at s) (bytes_drop at s b) (rw length-drop (omega arith))

  -- a name is written one byte too wide, and then the n bytes after it
  pub named : {m o : List ℕ} (w n : ℕ) → Rewrites K (w + n) (λ s. padded w (before_zero (take w s)) ++ take n (drop w s))
      → 1 ≤ n → at + (w + n) ≤ length s → to + (w + n) ≤ length l
      → m ≡ splice l to (padded (w + 1) (before_zero (run s at (w + 1)))) → o ≡ splice m (to + w) (run s (at + w) n)
      → o ≡ splice l to (K.encode (K.decode (drop at s)))
  unfolding run
  named w n r h hs hl e f =
      let k : length (run s (at + w) n) ≡ n = length_run s (at + w) n (omega arith) in
      f ∙ rw e (name_wider s l (run s (at + w) n) at to w 1 (omega arith) (omega arith) (omega arith) ∙ rw (rewritten (w + n) _ r hs, drop-drop))

  -- w bytes are written, and then a flag
  pub flagged : {m : List ℕ} {v : ℕ} (w : ℕ) (f : List ℕ → List ℕ) (g : ℕ → ℕ) → Rewrites K (w + 1) (λ s. f (take w s) ++ (g (get_or (drop w s) 0 0) ∷ []))
      → length (f (run s at w)) ≡ w → at + (w + 1) ≤ length s → to + (w + 1) ≤ length l
      → m ≡ splice l to (f (run s at w)) → v ≡ g (get_or s (at + w) 0)
      → set m (to + w) v ≡ splice l to (K.encode (K.decode (drop at s)))
  unfolding run
  flagged w f g r k hs hl e q =
      rw (e, q) (splice_snoc_at l to (f (run s at w)) w (g (get_or s (at + w) 0)) k (omega arith) ∙ rw (rewritten (w + 1) _ r hs, drop-drop, get_or-drop, add-zero))

-- ---- records one after another

-- below n, one record more of k bytes still lies among n of them
pub one_more : {i n : ℕ} (k : ℕ) → i < n → i * k + k ≤ n * k
one_more {i = i} {n = n} k h = omega (arith, mul-le-mul_right {m = i + 1} {n = n} k (omega arith))

module _ {A : Type 0} {K : Layout A} {k : ℕ} (z : Sized K k) where
  table_more : (n p : ℕ) (s : List ℕ) → table K (suc n) (drop p s) ≡ table K n (drop p s) ++ (K.decode (drop (p + n * k) s) ∷ [])
  unfolding table
  table_more zero p s = rw (zero-mul, add-zero)
  table_more (suc n) p s =
      let d : drop K.size (drop p s) ≡ drop (p + k) s = rw (z.size, drop-drop) in
      let e : p + suc n * k ≡ p + k + n * k = omega arith in
      rw (d, e, table_more n (p + k) s)

  -- i records of src were written, and then the next one
  pub each_turn : {x y : List ℕ} (src l : List ℕ) (at to i n : ℕ) → i < n → to + n * k ≤ length l
      → x ≡ splice l to (write_all K.encode (table K i (drop at src)))
      → y ≡ splice x (to + i * k) (K.encode (K.decode (drop (at + i * k) src)))
      → y ≡ splice l to (write_all K.encode (table K (i + 1) (drop at src)))
  unfolding write_all
  each_turn src l at to i n h r e f =
      let w : to + i * k ≤ length l = omega (arith, one_more {i = i} {n = n} k h) in
      f ∙ rw (
        e,
        splice_append_at l to (write_all K.encode (table K i (drop at src))) (K.encode (K.decode (drop (at + i * k) src))) (i * k) (section_length z i (drop at src)) w,
        add-one,
        table_more i at src,
        write_all_append,
        append-nil,
      )

pub room_section : {A : Type 0} {K : Layout A} {k : ℕ} (z : Sized K k) (n : ℕ) (s l : List ℕ) {to : ℕ} → to + n * k ≤ length l
    → Room l to (write_all K.encode (table K n s))
room_section z n s l h = record { room = omega (arith, section_length z n s) }

-- records that stay as they are are one copy
module _ {A : Type 0} {K : Layout A} {k : ℕ} (z : Sized K k) (s l : List ℕ) (at to n : ℕ) (h : at + n * k ≤ length s) where
  pub section_room : Room l to (write_all K.encode (table K n (drop at s))) → to + n * k ≤ length l
  section_room r = omega (arith, r.room, section_length z n (drop at s))

  pub section_copied : {o : List ℕ} → Bytes s → Rewrites K k (take k) → o ≡ splice l to (run s at (n * k))
      → Wrote l to (write_all K.encode (table K n (drop at s))) o (to + n * k)
  unfolding run
  section_copied b r e = record {
    holds = e ∙ ap (splice l to) (sym (section_stays r n (drop at s) (bytes_drop at s b) (rw length-drop (omega arith))));
    ends = ap (λ i. to + i) (sym (section_length z n (drop at s)));
  }

-- one record as the first of one
pub table_one : {A : Type 0} (K : Layout A) (s : List ℕ) → K.encode (K.decode s) ≡ write_all K.encode (table K 1 s)
unfolding table write_all
table_one K s = sym (append-nil (K.encode (K.decode s)))
