-- Laws of the pass over a file's frames: a turn of its loops, and what each of its figures is. Assumes nothing.
use Prim.Native.Nat.{ℕ, zero, suc, ◌+◌, ◌-◌, ◌≤◌, ◌<◌, min, max}
use mathlib.Core.Path.{◌≡◌, refl, sym, ◌∙◌, ap}
use mathlib.Core.List.{List, [], ◌∷◌, ◌++◌}
use native.Mathlib.Nat.{max-zero, zero-max}
use native.Mathlib.Omega.{arith}
use lib.ListN.{length, drop, length-append}
use Rattle.vmd_format.specs.Bytes.{u32}
use Rattle.vmd_laws.specs.BytesLaws.{Bytes, bytes_drop, u32_lt}
use Rattle.vmd_format.specs.Opening.{least, smallest, largest, record_count, Scan}
use Rattle.vmd_format.specs.Fetch.{next_frame}
use Rattle.vmd_laws.specs.Places.{frames_from, scan_frames}
use Rattle.vmd_laws.specs.FrameLaws.{largest_append}
use Rattle.vmd_frames.specs.declared.VmdFrames.{VmdFrames}
use Rattle.vmd_frames.specs.Frames.{no_frames, with_frame, with_frames, seen, frames_of}

-- a loop over n frames that is at frame i
module _ (next : ℕ → ℕ) (offset : ℕ) (s : List ℕ) (n i at : ℕ) (f all : VmdFrames) where
  pub seen_turn : i < n → seen next offset s (n - i) at f ≡ all → seen next offset s (n - (i + 1)) (next at) (with_frame f (u32 (drop (at + offset) s))) ≡ all
  unfolding with_frames frames_from
  seen_turn h q = let e : n - i ≡ suc (n - (i + 1)) = omega arith in rw e at q

  pub seen_done : n ≤ i → seen next offset s (n - i) at f ≡ all → f ≡ all
  unfolding with_frames frames_from
  seen_done h q = let e : n - i ≡ 0 = omega arith in rw e at q

-- ---- the smallest and the largest frame

pub with_append : (f : VmdFrames) (l m : List ℕ) → with_frames f (l ++ m) ≡ with_frames (with_frames f l) m
unfolding with_frames
with_append f [] m = refl
with_append f (x ∷ l) m = with_append (with_frame f x) l m

with_smallest : (f : VmdFrames) (l : List ℕ) → (with_frames f l).smallest ≡ least f.smallest l
unfolding with_frames least
with_smallest f [] = refl
with_smallest f (x ∷ l) = with_smallest (with_frame f x) l

with_largest : (f : VmdFrames) (l : List ℕ) → (with_frames f l).largest ≡ max f.largest (largest l)
unfolding with_frames largest
with_largest f [] = sym (max-zero f.largest)
with_largest f (x ∷ l) = with_largest (with_frame f x) l ∙ omega arith

-- a frame is a number of 32 bits
frames_small : (next : ℕ → ℕ) (offset : ℕ) (s : List ℕ) (n at : ℕ) → Bytes s → largest (frames_from next offset s n at) ≤ 4294967295
unfolding frames_from largest
frames_small next offset s zero at b = omega arith
frames_small next offset s (suc n) at b = omega (arith, u32_lt (drop (at + offset) s) (bytes_drop (at + offset) s b), frames_small next offset s n (next at) b)

frames_length : (next : ℕ → ℕ) (offset : ℕ) (s : List ℕ) (n at : ℕ) → length (frames_from next offset s n at) ≡ n
unfolding frames_from
frames_length next offset s zero at = refl
frames_length next offset s (suc n) at = ap suc (frames_length next offset s n (next at))

scan_small : (s : List ℕ) (x : Scan) → Bytes s → largest (scan_frames s x) ≤ 4294967295
unfolding scan_frames
scan_small s x b =
    simp largest_append
    (omega (
      arith,
      frames_small (λ at. at + 111) 15 s x.bones.count x.bones.place b,
      frames_small (λ at. at + 23) 15 s x.morphs.count x.morphs.place b,
      frames_small (λ at. at + 61) 0 s x.cameras.count x.cameras.place b,
      frames_small (λ at. at + 28) 0 s x.lights.count x.lights.place b,
      frames_small (λ at. at + 9) 0 s x.self_shadows.count x.self_shadows.place b,
      frames_small (next_frame s) 0 s x.properties.count x.properties.place b,
    ))

frames_counted : (s : List ℕ) (x : Scan) → record_count x ≡ length (scan_frames s x)
unfolding record_count scan_frames
frames_counted s x = simp (length-append, frames_length) (omega arith)

-- with no records there is no frame
pub frames_none : (s : List ℕ) (x : Scan) → record_count x ≡ 0 → ◌≡◌ {A = VmdFrames} (record { smallest = 0; largest = 0 }) (frames_of s x)
unfolding frames_of smallest largest
frames_none s x e = go (scan_frames s x) (sym (frames_counted s x) ∙ e)
  where
    go : (l : List ℕ) → length l ≡ 0 → ◌≡◌ {A = VmdFrames} (record { smallest = 0; largest = 0 }) (record { smallest = smallest l; largest = largest l })
    go [] e = refl
    go (n ∷ l) e = absurd (omega arith)

-- with records the pass gathers the smallest and the largest
pub frames_some : (s : List ℕ) (x : Scan) → Bytes s → ¬ (record_count x ≡ 0) → with_frames no_frames (scan_frames s x) ≡ frames_of s x
unfolding frames_of smallest least largest
frames_some s x b h = go (scan_frames s x) (frames_counted s x) (scan_small s x b)
  where
    go : (l : List ℕ) → record_count x ≡ length l → largest l ≤ 4294967295 → with_frames no_frames l ≡ record { smallest = smallest l; largest = largest l }
    go [] e a = absurd (h e)
    go (n ∷ l) e a =
        let q : min 4294967295 n ≡ n = omega (arith, a) in
        λ i. record { smallest = (with_smallest no_frames (n ∷ l) ∙ ap (λ k. least k l) q) i; largest = (with_largest no_frames (n ∷ l) ∙ zero-max (largest (n ∷ l))) i }
