-- Laws of scanning: its steps make the format's scan, turns of the loops over frames, and what callers know of a scan. Assumes
-- nothing.
use Prim.Native.Nat.{ℕ, ◌+◌, ◌*◌, ◌-◌, ◌≤◌, ◌<◌}
use mathlib.Core.Path.{◌≡◌, refl, sym, ◌∙◌}
use mathlib.Core.Bool.{Bool, true, false}
use mathlib.Core.List.{List}
use native.Mathlib.Nat.{mul-le-mul_left}
use native.Mathlib.Omega.{arith}
use borrow.Author.Tests.{le-leb, lt-leb}
use lib.Dec.{leb}
use lib.ListN.{length, drop}
use Rattle.std.specs.Prelude.{Option, Some, None}
use Rattle.vmd_format.specs.Bytes.{u32}
use Rattle.vmd_format.specs.Refusal.{file_ends_early}
use Rattle.vmd_format.specs.Answer.{Answer, declined, given, and_then, map_answer}
use Rattle.vmd_format.specs.Read.{Oversized, refuse, Manner}
use Rattle.vmd_laws.specs.Places.{Span, extent_in, no_span, records_span, count_span, span, optional_if, optional_span, walk, scan_sections}
use Rattle.vmd_laws.specs.PlacesLaws.{Holds, Within, optional_within, walk_next}
use Rattle.vmd_scan.specs.Stages.{Numbered, number_if, read_number, optional_number_if, optional_number, counted_if, counted_span, Back, scan_front, scan_back, scan_end}

-- records of at most 111 bytes, as many as a count says, fit a size
pub size_fits : (n size : ℕ) → n < 4294967296 → size ≤ 111 → n * size < 18446744073709551616
size_fits n size h l = omega (arith, mul-le-mul_left n l)

-- ---- a number and a section's records are a section

module _ (s : List ℕ) (at : ℕ) where
  pub number_short : length s < at + 4 → read_number s at ≡ declined file_ends_early
  unfolding read_number number_if
  number_short h = rw (lt-leb (at + 4) (length s) h)

  pub number_whole : (n : ℕ) → at + 4 ≤ length s → n ≡ u32 (drop at s) → read_number s at ≡ given (record { value = n; next = at + 4 })
  unfolding read_number number_if
  number_whole n h e = rw (le-leb (at + 4) (length s) h, ← e)

  pub number_missing : length s ≤ at → optional_number s at ≡ given None
  unfolding optional_number optional_number_if
  number_missing h = rw (le-leb (length s) at h)

  pub number_there : at < length s → optional_number s at ≡ map_answer Some (read_number s at)
  unfolding optional_number optional_number_if
  number_there h = rw (lt-leb (length s) at h)

-- the section after an optional count
unfoldable pub after_count : Oversized → ℕ → List ℕ → Option Numbered → Answer Span
after_count o size s None = given (no_span s)
after_count o size s (Some x) = counted_span o size s x

module _ (o : Oversized) (size : ℕ) (s : List ℕ) (at : ℕ) where
  pub span_steps : span o size s at ≡ and_then (read_number s at) (counted_span o size s)
  unfolding span count_span records_span read_number number_if counted_span counted_if and_then
  span_steps = go (leb (at + 4) (length s))
    where
      two : (b : Bool) → records_span b o size s at ≡ counted_if b o size s (record { value = u32 (drop at s); next = at + 4 })
      two true = refl
      two false = refl

      go : (b : Bool) → count_span b o size s at ≡ and_then (number_if b s at) (counted_span o size s)
      go true = two (leb (u32 (drop at s) * size) (length s - (at + 4)))
      go false = refl

  pub optional_steps : optional_span o size s at ≡ and_then (optional_number s at) (after_count o size s)
  unfolding optional_span optional_if optional_number optional_number_if and_then map_answer after_count
  optional_steps = go (leb (length s) at)
    where
      two : (x : Answer Numbered) → and_then x (counted_span o size s) ≡ and_then (map_answer Some x) (after_count o size s)
      two (declined k) = refl
      two (given x) = refl

      go : (b : Bool) → optional_if b o size s at ≡ and_then (optional_number_if b s at) (after_count o size s)
      go true = refl
      go false = span_steps ∙ two (read_number s at)

-- ---- the header, three sections, three more, and the end are the scan

and_then_assoc : {A B C : Type 0} (x : Answer A) (f : A → Answer B) (g : B → Answer C)
    → and_then (and_then x f) g ≡ and_then x (λ a. and_then (f a) g)
unfolding and_then
and_then_assoc (declined k) f g = refl
and_then_assoc (given a) f g = refl

and_then_given : {A B : Type 0} (a : A) (f : A → Answer B) → and_then (given a) f ≡ f a
unfolding and_then
and_then_given a f = refl

pub scan_steps : (m : Manner) (s : List ℕ) (at : ℕ)
    → scan_sections m s at ≡ and_then (scan_front m.oversized s at) (λ f. and_then (scan_back m.oversized s f.next) (scan_end m.over s f))
unfolding scan_sections scan_front scan_back scan_end extent_in
scan_steps m s at = simp (and_then_assoc, and_then_given)

-- the property frames begin in the file
pub back_starts : (o : Oversized) (s : List ℕ) (at : ℕ) (b : Back) → scan_back o s at ≡ given b → b.properties.place ≤ length s
unfolding scan_back and_then extent_in
back_starts o s at b e = rw e at (one (optional_span o 28 s at))
  where
    Starts : Answer Back → Type 0
    Starts = Holds (λ b. b.properties.place ≤ length s)

    three : (x : Answer Span) (l d : Span) → Holds (Within 9 s) x
        → Starts (and_then x (λ p. given (record { lights = extent_in l; self_shadows = extent_in d; properties = extent_in p })))
    three (declined k) l d w = tt
    three (given p) l d w = w.place

    two : (x : Answer Span) (l : Span)
        → Starts (and_then x (λ d. and_then (optional_span (refuse file_ends_early) 9 s d.next) λ p.
        given (record { lights = extent_in l; self_shadows = extent_in d; properties = extent_in p })))
    two (declined k) l = tt
    two (given d) l = three (optional_span (refuse file_ends_early) 9 s d.next) l d (optional_within (refuse file_ends_early) 9 s d.next)

    one : (x : Answer Span)
        → Starts (and_then x (λ l. and_then (optional_span o 9 s l.next) λ d.
        and_then (optional_span (refuse file_ends_early) 9 s d.next) λ p.
        given (record { lights = extent_in l; self_shadows = extent_in d; properties = extent_in p })))
    one (declined k) = tt
    one (given l) = two (optional_span o 9 s l.next) l

-- ---- property frames

-- a turn of the walk over n frames
pub walk_turn : (s : List ℕ) (n i at total k : ℕ) → i < n → at + 9 ≤ length s → k ≡ u32 (drop (at + 5) s) → k * 21 ≤ length s - (at + 9)
    → walk s (n - (i + 1)) (at + 9 + k * 21) (total + k) ≡ walk s (n - i) at total
walk_turn s n i at total k h l e o =
    let d : n - i - 1 ≡ n - (i + 1) = omega arith in
    sym (walk_next s (n - i) at total k (omega arith) l e o ∙ rw d)
