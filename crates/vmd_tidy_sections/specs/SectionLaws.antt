-- Laws of sections by where their records stand: the records that tidying keeps are those at the places that it keeps.
use Rattle.std.specs.Prelude.{ℕ, ◌+◌, ◌*◌, ◌≤◌, ◌<◌, ◌≡◌, length, take}
use Rattle.std.proofs.Math.Path.{refl, ap, ap₂}
use Rattle.std.proofs.Common.{sym, ◌∙◌, add-zero, arith, drop_of_length-le, drop-cons, drop-drop}
use mathlib.Core.List.{List, [], ◌∷◌, ◌++◌, map}
use Rattle.std.proofs.Math.Numerals.{add-one}
use Rattle.std.proofs.Math.ListN.{get_or, drop}
use Rattle.std.proofs.lemmas.List.{length-map}
use Rattle.vmd_format.specs.Bytes.{u32, u32_bytes}
use Rattle.vmd_format.specs.Fetch.{next_frame}
use Rattle.vmd_format.specs.Read.{fixed, write_all, write_counted}
use Rattle.vmd_format.specs.Layout.{number, name, raw, byte, flag, inverted, ◌⊗◌, as_record}
use Rattle.vmd_format.specs.Records.{bone, morph, camera, light, self_shadow}
use Rattle.vmd_laws.specs.ReadLaws.{All}
use Rattle.vmd_format.specs.Opening.{Extent}
use Rattle.vmd_laws.specs.PlacesLaws.{property_in, frames_in}
use Rattle.vmd_format.specs.Take.{property}
use Rattle.vmd_records.specs.declared.VmdKind.{VmdKind}
use Rattle.vmd_records.specs.declared.VmdKind.TheVariants as kind
use Rattle.vmd_records.specs.Kinds.{Row, layout, size_of, frame_at}
use Rattle.vmd_records.specs.KindLaws.{kind_sized}
use Rattle.vmd_keys.specs.Names.{name_in}
use Rattle.vmd_tracks.specs.Tracks.{lasts, tidy_section, one_track}
use Rattle.vmd_tracks.proofs.TrackLaws.{all_tidy, all_map, tidy_one, all_lasts}
use Rattle.vmd_tracks.proofs.RankedLaws.{lasts_shift, lasts_map}
use Rattle.vmd_tracks.proofs.MapLaws.{tidy_section_map, tidy_section_alike}
use Rattle.vmd_sort.specs.Order.{there}
use Rattle.vmd_sort.specs.OrderLaws.{there_in}
use Rattle.vmd_sort.specs.Walk.{step, places_by, end_by, states_there, total}
use Rattle.vmd_tidy_sections.specs.Sections.{placed, track_of, frame_of, track_at, tidied_places, tidied_rows, tidied_frame_places, tidied_frames}
use Rattle.vmd_sort.specs.KindLaws.{kind_some}
use Rattle.vmd_sort.specs.WalkLaws.{step_past, step_frame, step_fixed, places_lie}
use Rattle.vmd_tidy_sections.specs.WalkLaws.{write_map, table_places, frames_places}

-- ---- the fields of a record at a place

abbrev record_at : (k : VmdKind) → List ℕ → ℕ → Row k
record_at k s p = (layout k).decode (drop p s)

opened : Unit {0}
unfolding bone morph camera light self_shadow as_record number name raw byte flag inverted ◌⊗◌ name_in
opened = tt

track_there : (k : VmdKind) (s : List ℕ) (p : ℕ) → track_of k (record_at k s p) ≡ track_at k s p
unfolding opened
track_there kind.Bone s p = refl
track_there kind.Morph s p = refl
track_there kind.Camera s p = unfold one_track in refl
track_there kind.Light s p = unfold one_track in refl
track_there kind.SelfShadow s p = unfold one_track in refl

frame_there : (k : VmdKind) (s : List ℕ) (p : ℕ) → frame_of k (record_at k s p) ≡ u32 (drop (p + frame_at k) s)
unfolding opened
frame_there kind.Bone s p = ap u32 (drop-drop 15 p s)
frame_there kind.Morph s p = ap u32 (drop-drop 15 p s)
frame_there kind.Camera s p = ap (λ (z : ℕ). u32 (drop z s)) (sym (add-zero p))
frame_there kind.Light s p = ap (λ (z : ℕ). u32 (drop z s)) (sym (add-zero p))
frame_there kind.SelfShadow s p = ap (λ (z : ℕ). u32 (drop z s)) (sym (add-zero p))

each : {A : Type 0} (P : A → Type 0) → ((a : A) → P a) → (l : List A) → All P l
each P h [] = tt
each P h (a ∷ l) = (h a, each P h l)

-- LAW: the records that tidying keeps of a section
pub rows_placed : (k : VmdKind) (s : List ℕ) (x : Extent) → map (record_at k s) (tidied_places k s x) ≡ tidied_rows k s x
unfolding tidied_places tidied_rows
rows_placed k s x =
    let ps = places_by (step s (size_of k)) x.count x.place in
    let alike = tidy_section_alike (track_at k s) (λ p. track_of k (record_at k s p)) (λ p. u32 (drop (p + frame_at k) s)) (λ p. frame_of k (record_at k s p)) ps
    (each _ (λ p. sym (track_there k s p)) ps) (each _ (λ p. sym (frame_there k s p) ∙ omega arith) ps) in
    ap (map (record_at k s)) alike
    ∙ sym (tidy_section_map (record_at k s) (track_of k) (frame_of k) ps)
    ∙ ap (tidy_section (track_of k) (frame_of k)) (sym (table_places (layout k) s (size_of k) (kind_some k) (kind_sized k).size x.count x.place))

-- the same of property frames
property_frame : (s : List ℕ) (p : ℕ) → (property_in s p).frame ≡ u32 (drop p s)
unfolding property_in
property_frame s p = refl

pub frames_placed : (s : List ℕ) (x : Extent) → map (property_in s) (tidied_frame_places s x) ≡ tidied_frames s x
unfolding tidied_frame_places tidied_frames
frames_placed s x =
    let ps = places_by (step s 0) x.count x.place in
    ap (map (property_in s)) (lasts_shift (λ p. u32 (drop p s)) (λ p. (property_in s p).frame) 0 ps (each _ (λ p. sym (property_frame s p) ∙ omega arith) ps))
    ∙ sym (lasts_map (property_in s) (λ p. p.frame) ps)
    ∙ ap (lasts (λ p. p.frame)) (sym (frames_places s x.count x.place))
    ∙ sym (tidy_one (λ p. p.frame) (frames_in s x.count x.place))

-- ---- the places lie in the file

pub places_there : (k : VmdKind) (s : List ℕ) (x : Extent) → end_by (step s (size_of k)) x.count x.place ≤ length s
    → All (λ p. step s (size_of k) p ≤ length s) (tidied_places k s x)
unfolding tidied_places
places_there k s x h = all_tidy _ _ _ _ (places_lie (step s (size_of k)) (step_past s (size_of k)) x.count x.place (length s) h)

pub frames_there : (s : List ℕ) (x : Extent) → end_by (step s 0) x.count x.place ≤ length s
    → All (λ p. step s 0 p ≤ length s) (tidied_frame_places s x)
unfolding tidied_frame_places
frames_there s x h = all_lasts _ _ _ (places_lie (step s 0) (step_past s 0) x.count x.place (length s) h)

-- ---- sections whose records begin with their frame

-- what stands there is the frame, where the record lies in the file
module _ (s : List ℕ) (w : ℕ) (wide : (p : ℕ) → p + 4 ≤ step s w p) where
  pub frames_read : (n at : ℕ) → end_by (step s w) n at ≤ length s
      → lasts (there s) (places_by (step s w) n at) ≡ lasts (λ p. u32 (drop p s)) (places_by (step s w) n at)
  frames_read n at h =
      lasts_shift (there s) (λ p. u32 (drop p s)) 0 (places_by (step s w) n at)
      (all_map _ _ (places_by (step s w) n at) (λ p (q : step s w p ≤ length s). there_in s p (omega (arith, wide p)) ∙ omega arith)
      (places_lie (step s w) (step_past s w) n at (length s) h))

pub frames_first : (s ps : List ℕ) → tidy_section one_track (λ p. u32 (drop (p + 0) s)) ps ≡ lasts (λ p. u32 (drop p s)) ps
frames_first s ps =
    tidy_one (λ p. u32 (drop (p + 0) s)) ps
    ∙ lasts_shift (λ p. u32 (drop (p + 0) s)) (λ p. u32 (drop p s)) 0 ps
    (each _ (λ p. ap (λ (z : ℕ). u32 (drop z s)) (add-zero p) ∙ omega arith) ps)

-- LAW: a section of one track whose records begin with their frame
pub one_kept : (s : List ℕ) (w n at : ℕ) → 4 ≤ w → end_by (step s w) n at ≤ length s
    → lasts (there s) (places_by (step s w) n at) ≡ tidy_section one_track (λ p. u32 (drop (p + 0) s)) (places_by (step s w) n at)
one_kept s w n at wide h =
    frames_read s w (λ p. let e = step_fixed s w p (omega arith) in omega arith) n at h ∙ sym (frames_first s (places_by (step s w) n at))

pub frames_kept : (s : List ℕ) (x : Extent) → end_by (step s 0) x.count x.place ≤ length s
    → lasts (there s) (places_by (step s 0) x.count x.place) ≡ tidied_frame_places s x
unfolding tidied_frame_places
frames_kept s x h = frames_read s 0 (λ p. let e = step_frame s p in unfold next_frame in omega arith) x.count x.place h

-- ---- what is written of a section

module _ (k : VmdKind) (s : List ℕ) (x : Extent) (n : ℕ) (a : List ℕ) (e : take n a ≡ tidied_places k s x) (c : length (take n a) ≡ n) where
  pub rows_count : n ≡ length (tidied_rows k s x)
  rows_count = sym c ∙ ap length e ∙ sym (length-map (tidied_places k s x) (record_at k s)) ∙ ap length (rows_placed k s x)

  pub rows_bytes : write_counted (fixed (layout k)) (tidied_rows k s x) ≡ u32_bytes n ++ write_all (placed (layout k) s) (take n a)
  unfolding write_counted fixed
  rows_bytes =
      ap₂ (λ (m : ℕ) (r : List ℕ). u32_bytes m ++ r) (sym rows_count)
      (ap (write_all (layout k).encode) (sym (rows_placed k s x)) ∙ write_map (layout k).encode (record_at k s) (tidied_places k s x)
      ∙ ap (write_all (placed (layout k) s)) (sym e))

module _ (s : List ℕ) (x : Extent) (n : ℕ) (a : List ℕ) (e : take n a ≡ tidied_frame_places s x) (c : length (take n a) ≡ n) where
  pub frames_count : n ≡ length (tidied_frames s x)
  frames_count = sym c ∙ ap length e ∙ sym (length-map (tidied_frame_places s x) (property_in s)) ∙ ap length (frames_placed s x)

  pub frames_bytes : write_counted property (tidied_frames s x) ≡ u32_bytes n ++ write_all (λ p. property.write (property_in s p)) (take n a)
  unfolding write_counted
  frames_bytes =
      ap₂ (λ (m : ℕ) (r : List ℕ). u32_bytes m ++ r) (sym frames_count)
      (ap (write_all property.write) (sym (frames_placed s x)) ∙ write_map property.write (property_in s) (tidied_frame_places s x)
      ∙ ap (write_all (λ p. property.write (property_in s p))) (sym e))

-- ---- IK states

-- so many of the states of the places are added up
pub record Summed (s l : List ℕ) (i sum : ℕ) : Type 0 where
  pub few : i ≤ length l
  pub so_far : sum + total (states_there s) (drop i l) ≡ total (states_there s) l
  pub small : sum ≤ 4294967295 * i

module _ (s l : List ℕ) where
  pub summed_start : Summed s l 0 0
  summed_start = record { few = omega arith; so_far = omega arith; small = omega arith }

  pub summed_turn : {i sum v : ℕ} → i < length l → v ≡ states_there s (get_or l i 0) → v < 4294967296 → Summed s l i sum → Summed s l (i + 1) (sum + v)
  unfolding total
  summed_turn {i} {sum} {v} h e k w =
      let d : drop i l ≡ get_or l i 0 ∷ drop (i + 1) l = rw (drop-cons l i 0 h, add-one i) in
      let t : total (states_there s) (drop i l) ≡ states_there s (get_or l i 0) + total (states_there s) (drop (i + 1) l) = rw d in
      record { few = omega arith; so_far = omega (arith, w.so_far); small = omega (arith, w.small) }

  pub summed_end : {i sum : ℕ} → length l ≤ i → Summed s l i sum → sum ≡ total (states_there s) l
  unfolding total
  summed_end {i} {sum} h w =
      let d : total (states_there s) (drop i l) ≡ 0 = rw (drop_of_length-le l h) in omega (arith, w.so_far)

pub states_in : (s : List ℕ) (p : ℕ) → step s 0 p ≤ length s → (p + 9 ≤ length s) × (states_there s p ≡ u32 (drop (p + 5) s))
unfolding states_there
states_in s p h = let e = step_frame s p in let k : p + 9 ≤ length s = (unfold next_frame in omega arith) in (k, there_in s (p + 5) (omega arith))
