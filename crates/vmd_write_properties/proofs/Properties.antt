-- Property frames as code writes them: one, and a loop over many. Assumes nothing.
use Prim.Native.Nat.{ℕ, ◌+◌, ◌-◌, ◌≤◌, ◌<◌}
use mathlib.Core.Path.{◌≡◌, ap, sym, ◌∙◌}
use mathlib.Core.List.{List, [], ◌∷◌, ◌++◌, append_assoc}
use native.Mathlib.Omega.{arith}
use lib.ListN.{length, get_or, set, drop, length-append}
use Rattle.vmd_format.specs.Bytes.{u32, u32_bytes, is_set, flag_byte}
use Rattle.vmd_format.specs.Read.{table, write_all}
use Rattle.vmd_format.specs.Records.{ik_state}
use Rattle.vmd_format.specs.Take.{property}
use Rattle.vmd_format.specs.Fetch.{next_frame}
use Rattle.vmd_laws.specs.Places.{Reaches}
use Rattle.vmd_laws.specs.PlacesLaws.{property_in, frames_in}
use Rattle.vmd_laws.specs.WalkLaws.{frame_bytes, frame_ends, reaches_first, frames_first, frames_none}
use Rattle.vmd_bytes.specs.Slices.{splice}
use Rattle.vmd_bytes.specs.Written.{Wrote, Rest}
use Rattle.vmd_bytes.proofs.Laws.{splice_append_at, splice_snoc_at, length_u32_bytes}
use Rattle.vmd_bytes.proofs.Writes.{first_room, first_then, none_left}

-- number, flag, count and as many IK states written one after another
pub frame_written : {x y o : List ℕ} {m v n k r : ℕ} (s l : List ℕ) (at to : ℕ) → to + 9 ≤ length l
    → m ≡ u32 (drop at s) → x ≡ splice l to (u32_bytes m) → v ≡ flag_byte (is_set (get_or s (at + 4) 0))
    → n ≡ u32 (drop (at + 5) s) → y ≡ splice (set x (to + 4) v) (to + 5) (u32_bytes n)
    → k ≡ n → Wrote y (to + 9) (write_all ik_state.encode (table ik_state k (drop (at + 9) s))) o r
    → Wrote l to (property.write (property_in s at)) o r
frame_written {y = y} {o} {m} {v} {n} {r = r} s l at to h e a b d f i written =
    let g : Wrote y (to + 9) (write_all ik_state.encode (table ik_state n (drop (at + 9) s))) o r = rw (← i) written in
    let states : List ℕ = write_all ik_state.encode (table ik_state n (drop (at + 9) s)) in
    let front : List ℕ = u32_bytes m ++ (v ∷ []) in
    let k : length front ≡ 5 = length-append (u32_bytes m) (v ∷ []) ∙ omega (arith, length_u32_bytes m) in
    let nine : length (front ++ u32_bytes n) ≡ 9 = length-append front (u32_bytes n) ∙ omega (arith, length_u32_bytes n) in
    let is : property.write (property_in s at) ≡ front ++ (u32_bytes n ++ states) = frame_bytes s at n d ∙ rw (e, b) in
    let whole : front ++ (u32_bytes n ++ states) ≡ (front ++ u32_bytes n) ++ states = sym (append_assoc front (u32_bytes n) states) in
    record {
      holds =
          g.holds
          ∙ rw (f, a, splice_snoc_at l to (u32_bytes m) 4 v (length_u32_bytes m) (omega arith), splice_append_at l to front (u32_bytes n) 5 k (omega arith))
          (splice_append_at l to (front ++ u32_bytes n) states 9 nine h)
          ∙ ap (splice l to) (sym (is ∙ whole));
      ends = omega (arith, g.ends, ap length (is ∙ whole), length-append (front ++ u32_bytes n) states);
    }

-- What holds before each turn of a loop that writes frames: those that are left lie in the file, and are to be written here.
pub record Walking (src l : List ℕ) (to : ℕ) (w x : List ℕ) (p q left : ℕ) : Type 0 where
  pub reaches : Reaches src left p
  pub rest : Rest l to w x q (write_all property.write (frames_in src left p))

module _ {src l : List ℕ} {to : ℕ} where
  module _ {w x : List ℕ} {p q left : ℕ} (g : Walking src l to w x p q left) where
    module _ (h : 0 < left) where
      pub walking_lies : next_frame src p ≤ length src
      walking_lies = (reaches_first src left p h g.reaches).0

      pub walking_room : q + (next_frame src p - p) ≤ length x
      walking_room = omega (arith, (first_room property.write g.rest (frames_first src left p h)).room, frame_ends src p)

      pub walking_turn : {y : List ℕ} {r more : ℕ} (k : ℕ) → more ≡ left - 1 → p + k ≡ next_frame src p → Wrote x q (property.write (property_in src p)) y r
          → Walking src l to w y (p + k) r more
      walking_turn k m e a = rw (m, e) (record {
        reaches = (reaches_first src left p h g.reaches).1;
        rest = first_then property.write g.rest (frames_first src left p h) a;
      })

    pub walking_end : left ≡ 0 → Wrote l to w x q
    walking_end e = none_left property.write g.rest (frames_none src left p e)
