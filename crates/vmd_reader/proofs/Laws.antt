-- Laws of fetching and of opening, for code. Assumes nothing.
use Prim.Native.Nat.{ℕ, ◌≤◌, ◌<◌}
use mathlib.Core.Path.{◌≡◌, refl, ap, ◌∙◌}
use mathlib.Core.List.{List, ◌++◌}
use native.Mathlib.Nat.{add-zero, zero-add}
use borrow.Author.Tests.{le-leb, lt-leb}
use lib.ListN.{length, drop}
use lib.Seq.{drop-drop}
use Rattle.vmd_format.specs.Layout.{Layout}
use Rattle.vmd_format.specs.Refusal.{Refusal, scratch_too_short}
use Rattle.vmd_format.specs.Answer.{Answer, declined, given, and_then, map_answer, unless}
use Rattle.vmd_format.specs.Read.{Manner}
use Rattle.vmd_format.specs.Opening.{places_needed, Extent, Scan, open_file, scratch_if, scratch_after}
use Rattle.vmd_laws.specs.Places.{scan_file, sixteenth_places, opening_at, open_scan, scan_scratch}
use Rattle.vmd_laws.specs.OpeningLaws.{open_by_places, scratch_by_places}
use Rattle.vmd_laws.specs.FetchLaws.{places_length}
use Rattle.vmd_format.specs.Fetch.{record_place, fetch, next_place, property_place, property_at, fetch_property, step_property, fetch_ik_state}
use Rattle.vmd_format.specs.Records.{ik_state}
use Rattle.vmd_records.specs.declared.VmdParsedPropertyFrame.{VmdParsedPropertyFrame}
use Rattle.vmd_records.specs.Fields.{property_fields}
use Rattle.vmd_frames.specs.declared.VmdFrames.{VmdFrames}
use Rattle.vmd_frames.specs.Frames.{frames_of}
use Rattle.vmd_places.specs.Meaning.{ik_place}
use Rattle.vmd_places.proofs.Fields.{ik_is}
use Rattle.vmd_reader.specs.Meaning.{step_fields}

-- ---- records

-- a fetch x reads what d makes of the bytes of s from a place y on
pub record Read {A : Type 0} (x : Answer A) (y : Answer ℕ) (d : List ℕ → A) (s : List ℕ) : Type 0 where
  pub read : x ≡ map_answer (λ at. d (drop at s)) y

-- the answers of the calls, f being what they say of a record
module _ {A B : Type 0} {x : Answer A} {y : Answer ℕ} {d : List ℕ → A} {s : List ℕ} (q : Read x y d s) (f : A → B) where
  pub found : (at : ℕ) (l : List ℕ) (r : B) → y ≡ given at → l ≡ drop at s → r ≡ f (d l) → given r ≡ map_answer f x
  unfolding map_answer
  found at l r e h k = rw (q.read, e) (ap given (k ∙ ap (λ l. f (d l)) h))

  pub refused : (k : Refusal) → y ≡ declined k → declined k ≡ map_answer f x
  unfolding map_answer
  refused k e = rw (q.read, e) refl

pub record_read : {A : Type 0} (K : Layout A) (size : ℕ) → K.size ≡ size → (p : Extent) (i : ℕ) (s : List ℕ)
    → Read (fetch K p i s) (record_place size p i s) (λ t. K.decode t) s
unfolding fetch
record_read K size e p i s = record { read = rw e refl }

from_there : (s : List ℕ) (at : ℕ) → property_at s at ≡ property_at (drop at s) 0
unfolding property_at
from_there s at = simp (drop-drop, add-zero, zero-add)

pub property_read : (p : Extent) (scratch : List ℕ) (i : ℕ) (s : List ℕ)
    → Read (fetch_property p scratch i s) (property_place p scratch i s) (λ t. property_at t 0) s
unfolding fetch_property map_answer
property_read p scratch i s = record { read = go (property_place p scratch i s) }
  where
    go : (x : Answer ℕ) → map_answer (property_at s) x ≡ map_answer (λ at. property_at (drop at s) 0) x
    go (declined k) = refl
    go (given at) = ap given (from_there s at)

-- the step over a frame
module _ (at : ℕ) (s : List ℕ) where
  pub step_refused : (k : Refusal) → next_place s at ≡ declined k → declined k ≡ map_answer step_fields (step_property at s)
  unfolding step_property map_answer
  step_refused k e = rw e refl

  pub step_found : (l : List ℕ) (x : VmdParsedPropertyFrame) (next : ℕ) → next_place s at ≡ given next → l ≡ drop at s → x ≡ property_fields (property_at l 0)
      → given (x, next) ≡ map_answer step_fields (step_property at s)
  unfolding step_property map_answer
  step_found l x next e h k = rw (e, k, h, from_there s at) refl

pub ik_read : (p : Extent) (scratch : List ℕ) (i j : ℕ) (s : List ℕ) → Read (fetch_ik_state p scratch i j s) (ik_place p scratch i j s) (λ t. ik_state.decode t) s
ik_read p scratch i j s = record { read = ik_is p scratch i j s }

-- ---- opening

-- with n places needed
module _ (s : List ℕ) (x : Scan) (n : ℕ) (q : n ≡ places_needed x.properties.count) where
  pub opens : (places : ℕ) (f : VmdFrames) → n ≤ places → f ≡ frames_of s x
      → given (record { scan = x; smallest_frame = f.smallest; largest_frame = f.largest }) ≡ open_scan s places x
  unfolding open_scan opening_at unless frames_of
  opens places f h e = rw (← q, le-leb n places h, e)

  pub opens_not : (places : ℕ) → places < n → declined scratch_too_short ≡ open_scan s places x
  unfolding open_scan unless
  opens_not places h = rw (← q, lt-leb n places h)

  pub fills : (scratch l : List ℕ) → n ≤ length scratch
      → l ≡ sixteenth_places s (places_needed x.properties.count) x.properties.place ++ drop (places_needed x.properties.count) scratch
      → l ≡ scan_scratch s scratch (given x)
  unfolding scan_scratch scratch_if
  fills scratch l h e =
      rw (le-leb (places_needed x.properties.count) (length scratch) (rw (← q) h), places_length s (places_needed x.properties.count) x.properties.place) e

  pub fills_not : (scratch : List ℕ) → length scratch < n → scratch ≡ scan_scratch s scratch (given x)
  unfolding scan_scratch scratch_if
  fills_not scratch h = rw (← q, lt-leb n (length scratch) h)

module _ (m : Manner) (s : List ℕ) where
  pub open_refused : (places : ℕ) (k : Refusal) → scan_file m s ≡ declined k → declined k ≡ open_file m s places
  unfolding and_then
  open_refused places k e = rw (open_by_places m s places, e)

  pub open_scanned : (places : ℕ) (x : Scan) → scan_file m s ≡ given x → open_scan s places x ≡ open_file m s places
  unfolding and_then
  open_scanned places x e = rw (open_by_places m s places, e)

  pub scratch_refused : (scratch : List ℕ) (k : Refusal) → scan_file m s ≡ declined k → scratch ≡ scratch_after m s scratch
  unfolding scan_scratch
  scratch_refused scratch k e = rw (scratch_by_places m s scratch, e)

  pub scratch_scanned : (scratch : List ℕ) (x : Scan) → scan_file m s ≡ given x → scan_scratch s scratch (given x) ≡ scratch_after m s scratch
  scratch_scanned scratch x e = rw (scratch_by_places m s scratch, e)
