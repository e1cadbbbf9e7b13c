-- Laws of comparing property frames. Assumes nothing.
use Rattle.std.specs.Prelude.{ℕ, ◌+◌, ◌-◌, ◌≤◌, ◌<◌, ◌≡◌, List, ◌++◌, length, drop}
use Rattle.std.proofs.Math.Path.{refl, ap, sym}
use Rattle.std.proofs.Common.{◌∙◌, append_assoc, length-drop}
use native.Mathlib.Omega.{arith}
use Rattle.vmd_format.specs.Bytes.{u32, u32_bytes}
use Rattle.vmd_format.specs.Fetch.{next_frame}
use Rattle.vmd_format.specs.Read.{write_all}
use Rattle.vmd_format.specs.Take.{property}
use Rattle.vmd_laws.specs.BytesLaws.{Bytes, bytes_drop}
use Rattle.vmd_laws.specs.Places.{Reaches}
use Rattle.vmd_laws.specs.PlacesLaws.{property_in, frames_in}
use Rattle.vmd_laws.specs.Rewriting.{number_is}
use Rattle.vmd_laws.specs.WalkLaws.{frame_bytes, frame_ends, reaches_first, frames_first, frames_none}
use Rattle.vmd_form.specs.Compare.{agrees, differs, compare_at}
use Rattle.vmd_form.specs.CompareLaws.{compared_stands, next_agrees, next_differs}
use Rattle.vmd_form.specs.FieldLaws.{none_agrees, stays}
use Rattle.vmd_form.specs.RowLaws.{ik_rows}
use Rattle.vmd_form.specs.Rows.{rows, flag_field, ik_row}

-- a number that is read and written again stays
pub number_agrees : (s : List ℕ) → Bytes s → (at : ℕ) → at + 4 ≤ length s → compare_at s at (u32_bytes (u32 (drop at s))) ≡ agrees (at + 4)
number_agrees s b at h = rw (number_is (drop at s) (bytes_drop at s b) (rw length-drop (omega arith))) (stays s at 4 h)

-- ---- one frame

module _ (s : List ℕ) (b : Bytes s) (at : ℕ) (h : next_frame s at ≤ length s) where
  abbrev states : ℕ
  states = u32 (drop (at + 5) s)

  frame_bytes_in : property.write (property_in s at) ≡ u32_bytes (u32 (drop at s)) ++ (flag_field s (at + 4) ++ (u32_bytes states ++ rows (ik_row s) 21 states (at + 9)))
  unfolding next_frame
  frame_bytes_in = frame_bytes s at states refl ∙ rw (ik_rows s b states (at + 9) (omega arith)) (append_assoc (u32_bytes (u32 (drop at s))) (flag_field s (at + 4)) (u32_bytes states ++ rows (ik_row s) 21 states (at + 9)))

  pub flag_next : compare_at s at (property.write (property_in s at)) ≡ compare_at s (at + 4) (flag_field s (at + 4) ++ (u32_bytes states ++ rows (ik_row s) 21 states (at + 9)))
  unfolding next_frame
  flag_next = rw frame_bytes_in (next_agrees s at (u32_bytes (u32 (drop at s))) _ (at + 4) (number_agrees s b at (omega arith)))

  -- a frame differs where its flag does, and then where its IK states do
  pub frame_differs : (q : ℕ) → compare_at s (at + 4) (flag_field s (at + 4)) ≡ differs q → compare_at s at (property.write (property_in s at)) ≡ differs q
  frame_differs q e = flag_next ∙ next_differs s (at + 4) (flag_field s (at + 4)) _ q e

  pub frame_agrees : (q : ℕ) → compare_at s (at + 4) (flag_field s (at + 4)) ≡ agrees q
      → compare_at s at (property.write (property_in s at)) ≡ compare_at s (at + 9) (rows (ik_row s) 21 states (at + 9))
  unfolding next_frame
  frame_agrees q e =
      let d = compared_stands (at + 4) (drop (at + 4) s) (flag_field s (at + 4)) q e in
      let g : q ≡ at + 5 = omega (arith, d.next) in
      let z : at + 5 + 4 ≡ at + 9 = omega arith in
      flag_next ∙ next_agrees s (at + 4) (flag_field s (at + 4)) _ (at + 5) (e ∙ ap agrees g)
      ∙ next_agrees s (at + 5) (u32_bytes states) _ (at + 9) (number_agrees s b (at + 5) (omega arith) ∙ ap agrees z)

-- ---- frames one after another: what is left is still to be compared

pub record FramesLeft (s : List ℕ) (at n p left : ℕ) : Type 0 where
  pub reaches : Reaches s left p
  pub compared : compare_at s at (write_all property.write (frames_in s n at)) ≡ compare_at s p (write_all property.write (frames_in s left p))

pub frames_start : (s : List ℕ) (at n : ℕ) → Reaches s n at → FramesLeft s at n at n
frames_start s at n r = record { reaches = r; compared = refl }

module _ {s : List ℕ} {at n p left : ℕ} (i : FramesLeft s at n p left) where
  first_written : 0 < left → write_all property.write (frames_in s left p) ≡ property.write (property_in s p) ++ write_all property.write (frames_in s (left - 1) (next_frame s p))
  unfolding write_all
  first_written h = ap (write_all property.write) (frames_first s left p h)

  pub frames_lie : 0 < left → next_frame s p ≤ length s
  frames_lie h = (reaches_first s left p h i.reaches).0

  pub frames_turn : 0 < left → (q : ℕ) → agrees q ≡ compare_at s p (property.write (property_in s p)) → FramesLeft s at n (next_frame s p) (left - 1)
  frames_turn h q e =
      let d = compared_stands p (drop p s) (property.write (property_in s p)) q (sym e) in
      let g : q ≡ next_frame s p = d.next ∙ frame_ends s p in
      record {
        reaches = (reaches_first s left p h i.reaches).1;
        compared = i.compared ∙ ap (compare_at s p) (first_written h) ∙ next_agrees s p (property.write (property_in s p)) _ (next_frame s p) (sym e ∙ ap agrees g);
      }

  pub frames_differ : 0 < left → (q : ℕ) → differs q ≡ compare_at s p (property.write (property_in s p)) → differs q ≡ compare_at s at (write_all property.write (frames_in s n at))
  frames_differ h q e = sym (i.compared ∙ ap (compare_at s p) (first_written h) ∙ next_differs s p (property.write (property_in s p)) _ q (sym e))

  pub frames_done : left ≡ 0 → agrees p ≡ compare_at s at (write_all property.write (frames_in s n at))
  unfolding write_all
  frames_done e = sym (i.compared ∙ none_agrees s p _ (ap (write_all property.write) (frames_none s left p e)))
