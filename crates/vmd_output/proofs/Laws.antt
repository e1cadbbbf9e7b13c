-- Laws of what is written: the header, and a section. Assumes nothing.
use Prim.Native.Nat.{ℕ, ◌+◌, ◌≤◌}
use mathlib.Core.Path.{◌≡◌, ◌∙◌}
use mathlib.Core.List.{List, [], ◌∷◌, ◌++◌, append_assoc}
use native.Mathlib.Omega.{arith}
use lib.ListN.{length, drop, length-append}
use Rattle.vmd_laws.specs.ReadLaws.{write_all_append}
use Rattle.vmd_format.specs.Bytes.{u32_bytes, padded}
use Rattle.vmd_format.specs.Layout.{Layout}
use Rattle.vmd_format.specs.Read.{Codec, fixed, table, write_all, write_counted}
use Rattle.vmd_format.specs.Take.{property, Edition, magic_of, model_width, write_header}
use Rattle.vmd_laws.specs.Lengths.{magic_length, header_length}
use Rattle.vmd_format.specs.Opening.{Extent}
use Rattle.vmd_laws.specs.PlacesLaws.{table_length, frames_in}
use Rattle.vmd_laws.specs.ScanLaws.{frames_length}
use Rattle.vmd_bytes.specs.Slices.{splice}
use Rattle.vmd_bytes.proofs.Laws.{splice_append_at}
use Rattle.vmd_bytes.specs.Written.{Room, Wrote, Rest}
use Rattle.vmd_bytes.proofs.Writes.{rest_as}
use Rattle.vmd_output.specs.Sections.{rows, frame_rows, records_of, frames_of}

-- ---- the header

-- the magic with its zeros
start_length : (e : Edition) → length (magic_of e ++ (0 ∷ 0 ∷ 0 ∷ 0 ∷ [])) ≡ 30
start_length e = simp length-append (omega (arith, magic_length e))

module _ (e : Edition) {l : List ℕ} (m : List ℕ) (h : Room l 0 (write_header e m)) where
  pub header_room : 30 + model_width e ≤ length l
  header_room = omega (arith, h.room, header_length e m)

  pub header_wrote : {x y : List ℕ} → x ≡ splice l 0 (magic_of e ++ (0 ∷ 0 ∷ 0 ∷ 0 ∷ []))
      → y ≡ splice x 30 (padded (model_width e) m) → Wrote l 0 (write_header e m) y (30 + model_width e)
  unfolding write_header
  header_wrote {x} {y} a b = record {
    holds = b ∙ rw (a, splice_append_at l 0 (magic_of e ++ (0 ∷ 0 ∷ 0 ∷ 0 ∷ [])) (padded (model_width e) m) 30 (start_length e) (omega (arith, header_room)), append_assoc);
    ends = omega (arith, header_length e m);
  }

-- ---- a section: the count of both, the first file's records, the second's

counted_both : {A : Type 0} (C : Codec A) (l m : List A) {i j : ℕ} → length l ≡ i → length m ≡ j
    → write_counted C (l ++ m) ≡ u32_bytes (i + j) ++ (write_all C.write l ++ write_all C.write m)
unfolding write_counted
counted_both C l m e f = rw (length-append l m, write_all_append, e, f)

module _ {A : Type 0} (K : Layout A) (s : List ℕ) (p : Extent) (t : List ℕ) (q : Extent) where
  section_is : write_counted (fixed K) (records_of K s p t q) ≡ u32_bytes (p.count + q.count) ++ (rows K s p ++ rows K t q)
  unfolding records_of fixed
  section_is =
      counted_both (fixed K) (table K p.count (drop p.place s)) (table K q.count (drop q.place t))
      (table_length K p.count (drop p.place s)) (table_length K q.count (drop q.place t))

  -- a section is to be written, and all of it is left
  pub section_rest : {l : List ℕ} {to : ℕ} → Room l to (write_counted (fixed K) (records_of K s p t q))
      → Rest l to (write_counted (fixed K) (records_of K s p t q)) l to (u32_bytes (p.count + q.count) ++ (rows K s p ++ rows K t q))
  section_rest h = rest_as section_is h

module _ (s : List ℕ) (p : Extent) (t : List ℕ) (q : Extent) where
  frames_are : write_counted property (frames_of s p t q) ≡ u32_bytes (p.count + q.count) ++ (frame_rows s p ++ frame_rows t q)
  unfolding frames_of
  frames_are =
      counted_both property (frames_in s p.count p.place) (frames_in t q.count q.place)
      (frames_length s p.count p.place) (frames_length t q.count q.place)

  pub frames_rest : {l : List ℕ} {to : ℕ} → Room l to (write_counted property (frames_of s p t q))
      → Rest l to (write_counted property (frames_of s p t q)) l to (u32_bytes (p.count + q.count) ++ (frame_rows s p ++ frame_rows t q))
  frames_rest h = rest_as frames_are h
