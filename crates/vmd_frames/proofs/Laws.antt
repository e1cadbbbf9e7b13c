-- Turns of the loops over property frames and the places of a scratch. Assumes nothing.
use Prim.Native.Nat.{ℕ, zero, suc, ◌+◌, ◌*◌, ◌-◌, ◌≤◌, ◌<◌, min}
use mathlib.Core.Path.{◌≡◌, refl, sym, ◌∙◌}
use mathlib.Core.List.{List, [], ◌∷◌, ◌++◌, append_assoc}
use native.Mathlib.Numerals.{add-one}
use native.Mathlib.Omega.{arith}
use lib.ListN.{length, take, drop, set, take-append-drop}
use lib.Seq.{take-suc-set, drop-set-lt}
use Rattle.vmd_format.specs.Opening.{places_needed}
use Rattle.vmd_format.specs.Fetch.{next_frame}
use Rattle.vmd_laws.specs.Places.{Reaches, frame_end, sixteenth_places}
use Rattle.vmd_laws.specs.WalkLaws.{reaches_split}

-- a turn of a loop over n frames that is at frame i
module _ (s : List ℕ) (n i at : ℕ) (h : i < n) where
  left : n - i ≡ suc (n - (i + 1))
  left = omega arith

  pub reaches_next : Reaches s (n - i) at → (next_frame s at ≤ length s) × Reaches s (n - (i + 1)) (next_frame s at)
  unfolding Reaches
  reaches_next r = rw left at r

  pub frame_end_next : frame_end s (n - i) at ≡ frame_end s (n - (i + 1)) (next_frame s at)
  unfolding frame_end
  frame_end_next = rw left

pub frame_end_done : (s : List ℕ) (n at : ℕ) → n ≡ 0 → frame_end s n at ≡ at
unfolding frame_end
frame_end_done s n at e = rw e

-- a turn of the loop over the n places of k frames that is at place j, with m frames left
module _ (s : List ℕ) (k n j m at : ℕ) (f : n ≡ places_needed k) (h : j < n) (e : m ≡ k - 16 * j) where
  pub reaches_more : Reaches s m at → Reaches s (min m 16) at × Reaches s (m - min m 16) (frame_end s (min m 16) at)
  reaches_more r = let q : m ≡ min m 16 + (m - min m 16) = omega arith in reaches_split s (min m 16) (m - min m 16) at (rw q at r)

  -- sixteen frames are walked over, but after the last place
  places_rest : (i : ℕ) → i ≡ n - (j + 1) → sixteenth_places s i (frame_end s 16 at) ≡ sixteenth_places s i (frame_end s (min m 16) at)
  unfolding sixteenth_places places_needed
  places_rest zero q = refl
  places_rest (suc i) q = let w : min m 16 ≡ 16 = omega (arith, f) in rw w

  pub places_next : (scratch all : List ℕ) → j < length scratch → take j scratch ++ (sixteenth_places s (n - j) at ++ drop n scratch) ≡ all
      → take (j + 1) (set scratch j at) ++ (sixteenth_places s (n - (j + 1)) (frame_end s (min m 16) at) ++ drop n (set scratch j at)) ≡ all
  unfolding sixteenth_places
  places_next scratch all l q =
      let i = n - (j + 1) in
      let left : n - j ≡ suc i = omega arith in
      let p : take j scratch ++ (at ∷ (sixteenth_places s i (frame_end s 16 at) ++ drop n scratch)) ≡ all = rw left at q in
      let t : take (j + 1) (set scratch j at) ≡ take j scratch ++ (at ∷ []) = rw add-one (take-suc-set scratch j at l) in
      rw (t, drop-set-lt n scratch j at h, append_assoc, ← places_rest i refl) p

-- all n places are written
pub places_done : (s : List ℕ) (n j at : ℕ) (scratch all : List ℕ) → j ≡ n → take j scratch ++ (sixteenth_places s (n - j) at ++ drop n scratch) ≡ all → scratch ≡ all
unfolding sixteenth_places
places_done s n j at scratch all h q =
    let z : n - j ≡ 0 = omega arith in
    sym (take-append-drop n scratch) ∙ (rw (z, h) at q)
