-- Property frames one after another: their bytes, the first and the others, where they end, and what a walk over them shows.
-- Assumes nothing.
use Rattle.std.specs.Prelude.{ℕ, zero, suc, ◌+◌, ◌-◌, ◌*◌, ◌≤◌, ◌<◌, ◌≡◌, refl, Bool, true, false, List, [], ◌∷◌, ◌++◌, length, get_or, drop, leb}
use Rattle.std.proofs.Common.{ap, zero-add, arith, length-append}
use Rattle.vmd_format.specs.Bytes.{u32, u32_bytes, is_set, flag_byte}
use Rattle.vmd_format.specs.Layout.{number, flag, ◌⊗◌}
use Rattle.vmd_format.specs.Refusal.{file_ends_early}
use Rattle.vmd_format.specs.Answer.{Answer, declined, given}
use Rattle.vmd_format.specs.Read.{fixed, table, write_all, write_counted, refuse}
use Rattle.vmd_format.specs.Records.{ik_state, property_head}
use Rattle.vmd_format.specs.Take.{property}
use Rattle.vmd_format.specs.Opening.{ik_total}
use Rattle.vmd_format.specs.Fetch.{next_frame}
use Rattle.vmd_laws.specs.Places.{Span, Walk, span, walk, walk_on, Reaches, frame_end}
use Rattle.vmd_laws.specs.PlacesLaws.{Holds, Frame, frame_span, table_length, property_in, frames_in}
use Rattle.vmd_laws.specs.SizedLaws.{ik_state_sized, section_length}

-- ---- one frame

-- its bytes: its number, its flag, the count of its IK states, and these
pub frame_bytes : (s : List ℕ) (at n : ℕ) → n ≡ u32 (drop (at + 5) s)
    → property.write (property_in s at)
    ≡ (u32_bytes (u32 (drop at s)) ++ (flag_byte (is_set (get_or s (at + 4) 0)) ∷ [])) ++ (u32_bytes n ++ write_all ik_state.encode (table ik_state n (drop (at + 9) s)))
unfolding property property_in property_head number flag ◌⊗◌ write_counted fixed
frame_bytes s at n e = rw (table_length ik_state (u32 (drop (at + 5) s)) (drop (at + 9) s), e)

frame_length : (s : List ℕ) (at : ℕ) → length (property.write (property_in s at)) ≡ 9 + 21 * u32 (drop (at + 5) s)
unfolding u32_bytes
frame_length s at =
    let n : ℕ = u32 (drop (at + 5) s) in
    rw (frame_bytes s at n refl) (simp length-append (omega (arith, section_length ik_state_sized n (drop (at + 9) s))))

-- it is written in as many bytes as it has in the file
pub frame_ends : (s : List ℕ) (at : ℕ) → at + length (property.write (property_in s at)) ≡ next_frame s at
unfolding next_frame
frame_ends s at = omega (arith, frame_length s at)

pub next_above : (s : List ℕ) (at : ℕ) → at + 9 ≤ next_frame s at
unfolding next_frame
next_above s at = omega arith

-- ---- the first of some frames, and the others

pub reaches_first : (s : List ℕ) (n at : ℕ) → 0 < n → Reaches s n at → (next_frame s at ≤ length s) × Reaches s (n - 1) (next_frame s at)
unfolding Reaches
reaches_first s n at h r = let e : n ≡ suc (n - 1) = omega arith in rw e at r

pub frames_first : (s : List ℕ) (n at : ℕ) → 0 < n → frames_in s n at ≡ property_in s at ∷ frames_in s (n - 1) (next_frame s at)
unfolding frames_in
frames_first s n at h = let e : n ≡ suc (n - 1) = omega arith in ap (λ i. frames_in s i at) e

pub frames_none : (s : List ℕ) (n at : ℕ) → n ≡ 0 → frames_in s n at ≡ []
unfolding frames_in
frames_none s n at e = rw e

-- ---- where n frames end

pub frames_total : (s : List ℕ) (n at : ℕ) → frame_end s n at ≡ at + 9 * n + 21 * ik_total (frames_in s n at)
unfolding frame_end frames_in ik_total property_in next_frame
frames_total s zero at = omega arith
frames_total s (suc n) at =
    omega (arith, frames_total s n (next_frame s at), table_length ik_state (u32 (drop (at + 5) s)) (drop (at + 9) s))

pub frame_end_on : (s : List ℕ) (k n at : ℕ) → frame_end s n (frame_end s k at) ≡ frame_end s (k + n) at
unfolding frame_end
frame_end_on s zero n at = rw zero-add
frame_end_on s (suc k) n at = let e : suc k + n ≡ suc (k + n) = omega arith in rw e (frame_end_on s k n (next_frame s at))

-- some of the frames, and the others
pub reaches_split : (s : List ℕ) (a b at : ℕ) → Reaches s (a + b) at → Reaches s a at × Reaches s b (frame_end s a at)
unfolding Reaches frame_end
reaches_split s zero b at r = (tt, rw zero-add at r)
reaches_split s (suc a) b at r =
    let e : suc a + b ≡ suc (a + b) = omega arith in
    let q : Reaches s (suc (a + b)) at = rw e at r in
    let m = reaches_split s a b (next_frame s at) q.1 in
    ((q.0, m.0), m.1)

-- one more frame
pub frame_more : (s : List ℕ) (n at : ℕ) → Reaches s n at → next_frame s (frame_end s n at) ≤ length s
    → Reaches s (suc n) at × (frame_end s (suc n) at ≡ next_frame s (frame_end s n at))
unfolding Reaches frame_end
frame_more s zero at r h = ((h, tt), refl)
frame_more s (suc n) at r h =
    let m = frame_more s n (next_frame s at) r.1 h in
    ((r.0, m.0), m.1)

-- ---- a walk

-- what is known of frames that a walk went over: they lie in the file, and they take nine bytes each and 21 for each IK state
pub record Passed (s : List ℕ) (n at total : ℕ) (w : Walk) : Type 0 where
  pub reaches : Reaches s n at
  pub size : w.next + total * 21 ≡ at + n * 9 + w.ik_states * 21
  pub ends : at ≤ length s → w.next ≤ length s

walk_passes : (s : List ℕ) (n at total : ℕ) → Holds (Passed s n at total) (walk s n at total)
unfolding Reaches walk walk_on next_frame
walk_passes s zero at total = record { reaches = tt; size = omega arith; ends = λ h. h }
walk_passes s (suc n) at total =
    go (walk_passes s n) (leb (at + 5) (length s)) (span (refuse file_ends_early) 21 s (at + 5)) (frame_span s at)
  where
    more : (x : Span) → Frame s at x → (y : Answer Walk) → Holds (Passed s n x.next (total + x.count)) y → Holds (Passed s (suc n) at total) y
    more x f (declined k) h = tt
    more x f (given w) h = record {
      reaches = (rw (← f.next) f.ends, rw (← f.next) h.reaches);
      size = omega (arith, f.count, f.next, h.size);
      ends = λ z. h.ends f.ends;
    }

    go : ((e t : ℕ) → Holds (Passed s n e t) (walk s n e t)) → (b : Bool) (x : Answer Span) → Holds (Frame s at) x
        → Holds (Passed s (suc n) at total) (walk_on b x (walk s n) total)
    go r true (declined k) f = tt
    go r true (given x) f = more x f (walk s n x.next (total + x.count)) (r x.next (total + x.count))
    go r false x f = tt

pub walk_passed : (s : List ℕ) (n at total : ℕ) (w : Walk) → walk s n at total ≡ given w → Passed s n at total w
walk_passed s n at total w e = rw e at (walk_passes s n at total)
