-- Laws of counting: what is counted without the scratch is what tidying keeps.
use Rattle.std.specs.Prelude.{ℕ, ◌+◌, ◌*◌, ◌≤◌, ◌<◌, ◌≡◌, refl, false, ◌&&◌, List, [], ◌∷◌, map, eqb, drop}
use Rattle.std.proofs.Common.{ap, sym, ◌∙◌, arith, eq-eqb, ne_eqb}
use Rattle.std.proofs.Math.Path.{ap₂}
use Rattle.std.proofs.Math.Decide.{ℕ_discrete}
use Rattle.std.proofs.Math.ListN.{length}
use Rattle.std.proofs.lemmas.List.{length-map}
use Rattle.vmd_format.specs.Bytes.{u32}
use Rattle.vmd_laws.specs.BytesLaws.{Bytes}
use Rattle.vmd_laws.specs.ReadLaws.{All}
use Rattle.vmd_format.specs.Records.{ik_state}
use Rattle.vmd_format.specs.Take.{same}
use Rattle.vmd_format.specs.Opening.{Extent, ik_total}
use Rattle.vmd_laws.specs.PlacesLaws.{property_in, table_length}
use Rattle.vmd_keys.specs.Names.{track_in, to_line_feed}
use Rattle.vmd_keys.specs.Keys.{key_of, worth, top}
use Rattle.vmd_keys.proofs.KeyLaws.{pack_first, pack_second, worth_tells, cut_good}
use Rattle.vmd_count.specs.DistinctLaws.{same_refl, Names, equal, apart, names}
use Rattle.vmd_tracks.specs.Tracks.{lasts, tidy_section, same_slot}
use Rattle.vmd_tracks.proofs.TrackLaws.{all_map}
use Rattle.vmd_tracks.proofs.DroppedLaws.{kept_by_number, lasts_lost}
use Rattle.vmd_records.specs.declared.VmdKind.{VmdKind}
use Rattle.vmd_records.specs.Kinds.{layout}
use Rattle.vmd_sort.specs.Order.{there, both}
use Rattle.vmd_sort.specs.OrderLaws.{there_in, named_in, named_small}
use Rattle.vmd_sort.specs.Walk.{step, places_by, end_by, states_there, total}
use Rattle.vmd_tidy_sections.specs.Sections.{tidied_places, tidied_rows, tidied_frame_places, tidied_frames}
use Rattle.vmd_tidy_sections.specs.SectionLaws.{rows_placed, frames_placed, frames_there, frames_kept, states_in}
use Rattle.vmd_sort.specs.WalkLaws.{step_past, step_fixed, places_lie, places_count}

-- ---- names and frames told by one number

module _ (s : List ℕ) (bs : Bytes s) where
  abbrev frame_there : ℕ → ℕ
  frame_there p = u32 (drop (p + 15) s)

  both_in : (p : ℕ) → p + 19 ≤ length s → both s p ≡ frame_there p * top + worth (key_of (track_in s p))
  unfolding both
  both_in p h = ap₂ (λ (u v : ℕ). u * top + v) (there_in s (p + 15) (omega arith)) (named_in s p (omega arith))

  name_tells : (p q : ℕ) → worth (key_of (track_in s p)) ≡ worth (key_of (track_in s q)) → track_in s p ≡ track_in s q
  name_tells p q e = worth_tells _ _ (cut_good to_line_feed s bs p) (cut_good to_line_feed s bs q) e

  both_tells : (p q : ℕ) → p + 19 ≤ length s → q + 19 ≤ length s → eqb (both s p) (both s q) ≡ same_slot (track_in s) frame_there p q
  unfolding same_slot
  both_tells p q h k = go (names (track_in s p) (track_in s q)) (ℕ_discrete (frame_there p) (frame_there q))
    where
      small : (r : ℕ) → r + 19 ≤ length s → worth (key_of (track_in s r)) < top
      small r h = rw (named_in s r (omega arith)) at (named_small s r bs)

      parts : both s p ≡ both s q → (frame_there p ≡ frame_there q) × (worth (key_of (track_in s p)) ≡ worth (key_of (track_in s q)))
      parts e =
          let z = sym (both_in p h) ∙ e ∙ both_in q k in (
            pack_first top (frame_there p) (worth (key_of (track_in s p))) (frame_there q) (worth (key_of (track_in s q))) (small p h) (small q k) z,
            pack_second top (frame_there p) (worth (key_of (track_in s p))) (frame_there q) (worth (key_of (track_in s q))) (small p h) (small q k) z,
          )

      go : Names (track_in s p) (track_in s q) → Dec (frame_there p ≡ frame_there q)
          → eqb (both s p) (both s q) ≡ (same (track_in s p) (track_in s q) && eqb (frame_there p) (frame_there q))
      go (equal e x y) (yes d) =
          rw (x, eq-eqb (frame_there p) (frame_there q) d)
          (eq-eqb _ _ (both_in p h ∙ ap₂ (λ (u : ℕ) (v : List ℕ). u * top + worth (key_of v)) d e ∙ sym (both_in q k)))
      go (equal e x y) (no d) = rw (x, ne_eqb (frame_there p) (frame_there q) d) (ne_eqb _ _ (λ z. d (parts z).0))
      go (apart x y) d = rw x (ne_eqb _ _ (λ z. differ (name_tells p q (parts z).1) x))
        where
          differ : track_in s p ≡ track_in s q → same (track_in s p) (track_in s q) ≡ false → ⊥
          differ e f = let u = same_refl (track_in s p) in let v : same (track_in s p) (track_in s p) ≡ false = rw (← e) at f in let w : ◌≡◌ {A = ℕ} 0 1 = cc in omega arith

  -- LAW: names and frames
  pub named_count : (w n at : ℕ) → 19 ≤ w → end_by (step s w) n at ≤ length s
      → length (lasts (both s) (places_by (step s w) n at)) ≡ length (tidy_section (track_in s) frame_there (places_by (step s w) n at))
  named_count w n at wide h =
      kept_by_number (track_in s) frame_there (both s) (λ p. p + 19 ≤ length s) both_tells (places_by (step s w) n at)
      (all_map _ _ (places_by (step s w) n at) (λ p (q : step s w p ≤ length s). let e = step_fixed s w p (omega arith) in omega arith)
      (places_lie (step s w) (step_past s w) n at (length s) h))

-- ---- IK states

states_count : (s : List ℕ) (p : ℕ) → step s 0 p ≤ length s → length (property_in s p).ik_states ≡ states_there s p
unfolding property_in
states_count s p h = table_length ik_state (u32 (drop (p + 5) s)) (drop (p + 9) s) ∙ sym (states_in s p h).1

total_states : (s ps : List ℕ) → All (λ p. step s 0 p ≤ length s) ps → total (states_there s) ps ≡ ik_total (map (property_in s) ps)
unfolding total ik_total
total_states s [] h = refl
total_states s (p ∷ ps) h = omega (arith, states_count s p h.0, total_states s ps h.1)

-- LAW: the IK states of the frames that are kept
pub frames_states : (s : List ℕ) (x : Extent) → end_by (step s 0) x.count x.place ≤ length s
    → total (states_there s) (tidied_frame_places s x) ≡ ik_total (tidied_frames s x)
frames_states s x h = total_states s (tidied_frame_places s x) (frames_there s x h) ∙ ap ik_total (frames_placed s x)

-- ---- as many as are kept

pub keys_few : (f : ℕ → ℕ) (next : ℕ → ℕ) (n at : ℕ) → length (lasts f (places_by next n at)) ≤ n
keys_few f next n at = omega (arith, lasts_lost f (places_by next n at), places_count next n at)

-- the records of a kind, by the places of the kept
module _ (k : VmdKind) (s : List ℕ) (x : Extent) where
  pub rows_many : length (tidied_places k s x) ≡ length (tidied_rows k s x)
  rows_many = sym (length-map (tidied_places k s x) (λ p. (layout k).decode (drop p s))) ∙ ap length (rows_placed k s x)

pub frames_many : (s : List ℕ) (x : Extent) → end_by (step s 0) x.count x.place ≤ length s
    → length (lasts (there s) (places_by (step s 0) x.count x.place)) ≡ length (tidied_frames s x)
frames_many s x h =
    ap length (frames_kept s x h) ∙ sym (length-map (tidied_frame_places s x) (property_in s)) ∙ ap length (frames_placed s x)
