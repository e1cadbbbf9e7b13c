-- Laws of writing what the parts mean: floats, and records from columns. Assumes nothing.
use Prim.Native.Nat.{ℕ, ◌+◌, ◌-◌, ◌*◌, ◌≤◌, ◌<◌}
use mathlib.Core.Path.{◌≡◌, ap, sym, ◌∙◌}
use mathlib.Core.Bool.{true, ◌&&◌, and-eq-true_iff}
use mathlib.Core.List.{List, [], ◌∷◌, ◌++◌, append_assoc}
use native.Mathlib.Nat.{add-sub_cancel_left}
use native.Mathlib.Omega.{arith}
use lib.ListN.{length, get_or, take, drop, drop_of_length-le, length-append, length-drop, length-map}
use lib.Seq.{length-take-le}
use lib.Ieee.{Float, nan, binary32, to_bits}
use Rattle.vmd_format.specs.Bytes.{u32_bytes, padded}
use Rattle.vmd_laws.specs.BytesLaws.{padded_length}
use Rattle.vmd_format.specs.Read.{write_all}
use Rattle.vmd_format.specs.Parts.{finite, all_finite}
use Rattle.vmd_bytes.specs.Slices.{splice, run}
use Rattle.vmd_bytes.proofs.Laws.{splice_append_at, length_u32_bytes}
use Rattle.vmd_bytes.proofs.Writes.{Filling, filling_start, filling_turn, filling_end}
use Rattle.vmd_check_columns.specs.Meaning.{bits}
use Rattle.vmd_write_columns.specs.Stages.{BoneThere, bone_bytes}
use Rattle.vmd_check_columns.proofs.Columns.{bits_cons, bits_part}
use Rattle.vmd_write_columns.proofs.Names.{number_over}

-- ---- floats

floats_length : (l : List ℕ) → length (write_all u32_bytes l) ≡ length l * 4
unfolding write_all
floats_length [] = omega arith
floats_length (a ∷ l) = length-append (u32_bytes a) (write_all u32_bytes l) ∙ omega (arith, length_u32_bytes a, floats_length l)

-- n of them, from a place on
part_length : (n k : ℕ) (l : List ℕ) → k + n ≤ length l → length (write_all u32_bytes (take n (drop k l))) ≡ n * 4
part_length n k l h =
    let d : n ≤ length (drop k l) = rw length-drop (omega arith) in
    floats_length (take n (drop k l)) ∙ ap (λ i. i * 4) (length-take-le n (drop k l) d)

pub bits_length : (xs : List Float) → length (bits xs) ≡ length xs
bits_length xs = length-map xs (to_bits binary32)

-- What holds before each turn of a loop that writes floats: those from p on are finite, and are to be written here.
pub record Pouring (xs : List Float) (l : List ℕ) (to : ℕ) (x : List ℕ) (p : ℕ) : Type 0 where
  pub fine : all_finite (drop p (bits xs)) ≡ true
  pub fill : Filling u32_bytes 4 l to (write_all u32_bytes (bits xs)) x (to + p * 4) (length xs - p) (drop p (bits xs))

module _ {xs : List Float} {l : List ℕ} {to : ℕ} where
  pub pouring_start : to + length xs * 4 ≤ length l → all_finite (bits xs) ≡ true → Pouring xs l to l 0
  pouring_start r f =
      let a : to + 0 * 4 ≡ to = omega arith in
      let n : length xs - 0 ≡ length xs = omega arith in
      let b : length (write_all u32_bytes (bits xs)) ≡ length xs * 4 = floats_length (bits xs) ∙ ap (λ i. i * 4) (bits_length xs) in
      record { fine = f; fill = rw (a, n) (filling_start (bits xs) length_u32_bytes (bits_length xs) (record { room = omega arith })) }

  module _ {x : List ℕ} {p : ℕ} (g : Pouring xs l to x p) where
    module _ (h : p < length xs) where
      fine_now : (finite (to_bits binary32 (get_or xs p nan)) && all_finite (drop (p + 1) (bits xs))) ≡ true
      unfolding all_finite
      fine_now = sym (ap all_finite (bits_cons xs p h)) ∙ g.fine

      pub pouring_fine : finite (to_bits binary32 (get_or xs p nan)) ≡ true
      pouring_fine = ((and-eq-true_iff _ (all_finite (drop (p + 1) (bits xs)))).0 fine_now).0

      pub pouring_room : to + p * 4 + 4 ≤ length x
      pouring_room = omega (arith, g.fill.room)

      pub pouring_turn : {y : List ℕ} {v : ℕ} → v ≡ to_bits binary32 (get_or xs p nan) → y ≡ splice x (to + p * 4) (u32_bytes v) → Pouring xs l to y (p + 1)
      pouring_turn e d =
          let a : to + p * 4 + 4 ≡ to + (p + 1) * 4 = omega arith in
          let m : length xs - p - 1 ≡ length xs - (p + 1) = omega arith in
          record {
            fine = ((and-eq-true_iff (finite (to_bits binary32 (get_or xs p nan))) _).0 fine_now).1;
            fill = rw (a, m) at (filling_turn g.fill (omega arith) (bits_cons xs p h) d (ap u32_bytes e));
          }

    pub pouring_end : length xs ≤ p → x ≡ splice l to (write_all u32_bytes (bits xs))
    pouring_end h = let k : length (bits xs) ≤ p = omega (arith, bits_length xs) in (filling_end g.fill (drop_of_length-le (bits xs) k)).holds

-- n floats of a column, as a slice of it
module _ (xs : List Float) (at n : ℕ) where
  pub part_wide : at + n ≤ length (bits xs) → length (take (at + n - at) (drop at xs)) ≡ n
  part_wide h =
      let k : n ≤ length (drop at xs) = rw length-drop (omega (arith, bits_length xs)) in
      rw (add-sub_cancel_left at n) (length-take-le n (drop at xs) k)

  pub part_fine : all_finite (take n (drop at (bits xs))) ≡ true → all_finite (bits (take (at + n - at) (drop at xs))) ≡ true
  part_fine h = ap all_finite (bits_part xs at n) ∙ h

  pub part_written : (l o : List ℕ) (to : ℕ) → o ≡ splice l to (write_all u32_bytes (bits (take (at + n - at) (drop at xs))))
      → o ≡ splice l to (write_all u32_bytes (take n (drop at (bits xs))))
  part_written l o to h = rw (← bits_part xs at n) h

-- ---- fields one after another

-- a name in two words, a number over the last byte of them, and then more
named_at : {x y o : List ℕ} (s : List ℕ) (v : ℕ) (u l : List ℕ) (to : ℕ) → to + 19 ≤ length l
    → x ≡ splice l to (padded 16 s) → y ≡ splice x (to + 15) (u32_bytes v) → o ≡ splice y (to + 19) u
    → o ≡ splice l to (padded 15 s ++ (u32_bytes v ++ u))
named_at s v u l to h e f g =
    let k : length (padded 15 s ++ u32_bytes v) ≡ 19 = length-append (padded 15 s) (u32_bytes v) ∙ omega (arith, padded_length 15 s, length_u32_bytes v) in
    g
    ∙ rw (number_over s v l to h e f, splice_append_at l to (padded 15 s ++ u32_bytes v) u 19 k h)
    (ap (splice l to) (append_assoc (padded 15 s) (u32_bytes v) u))

pub morph_written : {x y o : List ℕ} {b : ℕ} (s : List ℕ) (v : ℕ) (w : Float) (l : List ℕ) (to : ℕ) → to + 23 ≤ length l
    → x ≡ splice l to (padded 16 s) → y ≡ splice x (to + 15) (u32_bytes v) → b ≡ to_bits binary32 w → o ≡ splice y (to + 19) (u32_bytes b)
    → o ≡ splice l to (padded 15 s ++ (u32_bytes v ++ u32_bytes (to_bits binary32 w)))
morph_written s v w l to h e f q g = named_at s v (u32_bytes (to_bits binary32 w)) l to (omega arith) e f (g ∙ rw q)

pub bone_written : {x y z w o : List ℕ} (s : List ℕ) (v : ℕ) (t r a : List ℕ) (i : ℕ) (l : List ℕ) (to : ℕ) → BoneThere t r a i → to + 111 ≤ length l
    → x ≡ splice l to (padded 16 s) → y ≡ splice x (to + 15) (u32_bytes v) → z ≡ splice y (to + 19) (write_all u32_bytes (take 3 (drop (3 * i) t)))
    → w ≡ splice z (to + 31) (write_all u32_bytes (take 4 (drop (4 * i) r))) → o ≡ splice w (to + 47) (run a (64 * i) 64)
    → length y ≡ length l
    → o ≡ splice l to (bone_bytes s v t r a i)
unfolding bone_bytes run
bone_written {y = y} s v t r a i l to b h e f g j k n =
    let u : List ℕ = write_all u32_bytes (take 3 (drop (3 * i) t)) in
    let m : List ℕ = write_all u32_bytes (take 4 (drop (4 * i) r)) in
    let lu : length u ≡ 12 = part_length 3 (3 * i) t b.translation in
    let lm : length m ≡ 16 = part_length 4 (4 * i) r b.rotation in
    let lum : length (u ++ m) ≡ 28 = length-append u m ∙ omega arith in
    let p : to + 31 ≡ to + 19 + 12 = omega arith in
    let q : to + 47 ≡ to + 19 + 28 = omega arith in
    named_at s v (u ++ (m ++ take 64 (drop (64 * i) a))) l to (omega arith) e f
    (k ∙ rw (j, g, p, q, splice_append_at y (to + 19) u m 12 lu (omega arith), splice_append_at y (to + 19) (u ++ m) (take 64 (drop (64 * i) a)) 28 lum (omega arith), append_assoc))
