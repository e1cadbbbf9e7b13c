-- Laws of places: where a record stands, and that it ends in the file. Assumes nothing.
use Prim.Native.Nat.{ℕ, zero, suc, ◌+◌, ◌*◌, ◌-◌, ◌/◌, ◌%◌, ◌≤◌, ◌<◌}
use mathlib.Core.Path.{◌≡◌, refl}
use mathlib.Core.Bool.{Bool, true, false, ◌&&◌}
use mathlib.Core.List.{List, [], ◌∷◌}
use native.Mathlib.Omega.{arith}
use native.Mathlib.Nat.{mul-le-mul_left}
use borrow.Author.Tests.{le-leb, lt-leb, leb-true, lt-ltb, le-ltb}
use lib.Dec.{leb, ltb}
use lib.ListN.{length, get_or, take, drop, length-drop}
use lib.Seq.{take_all}
use Rattle.vmd_format.specs.Bytes.{u32}
use Rattle.vmd_format.specs.Refusal.{Refusal, outside}
use Rattle.vmd_format.specs.Answer.{Answer, declined, given, and_then, unless}
use Rattle.vmd_format.specs.Opening.{Extent}
use Rattle.vmd_format.specs.Fetch.{record_place, next_frame, next_place, walk_frames, frame_place, property_place, ik_extent}
use Rattle.vmd_laws.specs.PlacesLaws.{Holds}
use Rattle.vmd_laws.specs.FetchLaws.{next_reaches, next_leaves}
use Rattle.vmd_places.specs.Meaning.{ik_place}

module _ (size : ℕ) (p : Extent) (i : ℕ) (s : List ℕ) where
  pub place_past : p.count ≤ i → record_place size p i s ≡ declined outside
  unfolding record_place unless
  place_past h = rw (le-ltb i p.count h)

  pub place_outside : length s < p.place + i * size + size → record_place size p i s ≡ declined outside
  unfolding record_place unless
  place_outside h = rw (lt-leb (p.place + i * size + size) (length s) h) (go (ltb i p.count))
    where
      go : (b : Bool) → unless (b && false) outside (given (p.place + i * size)) ≡ declined outside
      go true = refl
      go false = refl

  pub place_found : i < p.count → p.place + i * size + size ≤ length s → record_place size p i s ≡ given (p.place + i * size)
  unfolding record_place unless
  place_found h l = rw (lt-ltb i p.count h, le-leb (p.place + i * size + size) (length s) l)

  place_ends : (at : ℕ) → record_place size p i s ≡ given at → at + size ≤ length s
  unfolding record_place unless
  place_ends at e = go (ltb i p.count) (leb (p.place + i * size + size) (length s)) refl e
    where
      go : (b c : Bool) → leb (p.place + i * size + size) (length s) ≡ c → unless (b && c) outside (given (p.place + i * size)) ≡ given at
          → at + size ≤ length s
      go true true q e = let z : p.place + i * size ≡ at = cc in omega (arith, leb-true (p.place + i * size + size) (length s) q)
      go true false q e = let z : ◌≡◌ {A = ℕ} 0 1 = cc in absurd (omega arith)
      go false c q e = let z : ◌≡◌ {A = ℕ} 0 1 = cc in absurd (omega arith)

-- the offset of a record fits, where its number is below a 32-bit count
pub offset_fits : (i n size : ℕ) → i < n → n < 4294967296 → size ≤ 111 → i * size + size < 18446744073709551616
offset_fits i n size h k l = omega (arith, mul-le-mul_left i l)

-- ---- property frames

module _ (s : List ℕ) (at : ℕ) where
  pub next_short : length s < at + 9 → next_place s at ≡ declined outside
  unfolding next_frame
  next_short h = next_leaves s at (omega arith)

  module _ (k : ℕ) (e : k ≡ u32 (drop (at + 5) s)) where
    pub next_over : length s < at + 9 + k * 21 → next_place s at ≡ declined outside
    unfolding next_frame
    next_over h = next_leaves s at (rw e at h)

    pub next_found : at + 9 + k * 21 ≤ length s → next_place s at ≡ given (at + 9 + k * 21)
    unfolding next_frame
    next_found h = rw e (next_reaches s at (rw e at h))

  frame_ends : (to : ℕ) → frame_place s at ≡ given to → to + 9 ≤ length s
  unfolding frame_place unless
  frame_ends to e = go (leb (at + 9) (length s)) refl e
    where
      go : (b : Bool) → leb (at + 9) (length s) ≡ b → unless b outside (given at) ≡ given to → to + 9 ≤ length s
      go true q e = let z : at ≡ to = cc in omega (arith, leb-true (at + 9) (length s) q)
      go false q e = let z : ◌≡◌ {A = ℕ} 0 1 = cc in absurd (omega arith)

  pub walk_done : (n : ℕ) → n ≡ 0 → walk_frames s n at ≡ given at
  unfolding walk_frames
  walk_done n e = rw e

  -- a step of a walk over n frames that has gone over i
  module _ (n i : ℕ) (h : i < n) where
    left : n - i ≡ suc (n - (i + 1))
    left = omega arith

    pub walk_refused : (k : Refusal) → next_place s at ≡ declined k → walk_frames s (n - i) at ≡ declined k
    unfolding walk_frames and_then
    walk_refused k e = rw (left, e)

    pub walk_step : (next : ℕ) → next_place s at ≡ given next → walk_frames s (n - i) at ≡ walk_frames s (n - (i + 1)) next
    unfolding walk_frames and_then
    walk_step next e = rw (left, e)

module _ (p : Extent) (scratch : List ℕ) (i : ℕ) (s : List ℕ) where
  pub property_past : p.count ≤ i → property_place p scratch i s ≡ declined outside
  unfolding property_place unless
  property_past h = rw (le-ltb i p.count h)

  pub scratch_past : i < p.count → length scratch ≤ i / 16 → property_place p scratch i s ≡ declined outside
  unfolding property_place unless
  scratch_past h l = rw (lt-ltb i p.count h, le-ltb (i / 16) (length scratch) l)

  module _ (h : i < p.count) (l : i / 16 < length scratch) where
    pub property_refused : (k : Refusal) → walk_frames s (i % 16) (get_or scratch (i / 16) 0) ≡ declined k → property_place p scratch i s ≡ declined k
    unfolding property_place unless and_then
    property_refused k e = rw (lt-ltb i p.count h, lt-ltb (i / 16) (length scratch) l, e)

    pub property_walked : (at : ℕ) → walk_frames s (i % 16) (get_or scratch (i / 16) 0) ≡ given at → property_place p scratch i s ≡ frame_place s at
    unfolding property_place unless and_then
    property_walked at e = rw (lt-ltb i p.count h, lt-ltb (i / 16) (length scratch) l, e)

  pub property_ends : (at : ℕ) → property_place p scratch i s ≡ given at → at + 9 ≤ length s
  unfolding property_place unless and_then
  property_ends at e = go (ltb i p.count && ltb (i / 16) (length scratch)) (walk_frames s (i % 16) (get_or scratch (i / 16) 0)) e
    where
      go : (b : Bool) (x : Answer ℕ) → unless b outside (and_then x (frame_place s)) ≡ given at → at + 9 ≤ length s
      go true (declined k) e = let z : ◌≡◌ {A = ℕ} 0 1 = cc in absurd (omega arith)
      go true (given to) e = frame_ends s to at e
      go false x e = let z : ◌≡◌ {A = ℕ} 0 1 = cc in absurd (omega arith)

  ik_ends : (j at : ℕ) → ik_place p scratch i j s ≡ given at → at + 21 ≤ length s
  unfolding ik_place and_then
  ik_ends j at e = go (property_place p scratch i s) e
    where
      go : (x : Answer ℕ) → and_then x (λ at. record_place 21 (ik_extent s at) j s) ≡ given at → at + 21 ≤ length s
      go (declined k) e = let z : ◌≡◌ {A = ℕ} 0 1 = cc in absurd (omega arith)
      go (given q) e = place_ends 21 (ik_extent s q) j s at e

-- ---- the bytes from a place on

pub past_the_end : (s : List ℕ) (at : ℕ) → length s < at → drop at s ≡ []
past_the_end s zero h = absurd (omega arith)
past_the_end [] (suc at) h = refl
past_the_end (b ∷ s) (suc at) h = past_the_end s at (omega arith)

pub from_there : (s : List ℕ) (at : ℕ) → take (length s - at) (drop at s) ≡ drop at s
from_there s at = take_all (length s - at) (drop at s) (rw length-drop (omega arith))

-- ---- what stands at a place, ends in the file

pub record_holds : (size : ℕ) (p : Extent) (i : ℕ) (s : List ℕ) → Holds (λ at. at + size ≤ length s) (record_place size p i s)
record_holds size p i s = go (record_place size p i s) refl
  where
    go : (x : Answer ℕ) → record_place size p i s ≡ x → Holds (λ at. at + size ≤ length s) x
    go (declined k) e = tt
    go (given at) e = place_ends size p i s at e

pub ik_holds : (p : Extent) (scratch : List ℕ) (i j : ℕ) (s : List ℕ) → Holds (λ at. at + 21 ≤ length s) (ik_place p scratch i j s)
ik_holds p scratch i j s = go (ik_place p scratch i j s) refl
  where
    go : (x : Answer ℕ) → ik_place p scratch i j s ≡ x → Holds (λ at. at + 21 ≤ length s) x
    go (declined k) e = tt
    go (given at) e = ik_ends p scratch i s j at e

-- so does a field of it
module _ {x y : Answer ℕ} {size : ℕ} (s : List ℕ) (e : x ≡ y) (h : Holds (λ at. at + size ≤ length s) y) where
  pub name_holds : (width : ℕ) → width ≤ size → Holds (λ at. at + width ≤ length s) x
  name_holds width l = rw e (go y h)
    where
      go : (z : Answer ℕ) → Holds (λ at. at + size ≤ length s) z → Holds (λ at. at + width ≤ length s) z
      go (declined k) h = tt
      go (given at) h = omega arith

  pub bytes_hold : (offset n : ℕ) → offset + n ≤ size → Holds (λ at. at + offset + n ≤ length s) x
  bytes_hold offset n l = rw e (go y h)
    where
      go : (z : Answer ℕ) → Holds (λ at. at + size ≤ length s) z → Holds (λ at. at + offset + n ≤ length s) z
      go (declined k) h = tt
      go (given at) h = omega arith
