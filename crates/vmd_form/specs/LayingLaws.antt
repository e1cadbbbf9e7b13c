-- A scan lays the sections of a file one after another. Assumes nothing.
use Rattle.std.specs.Prelude.{ℕ, ◌+◌, ◌*◌, ◌-◌, ◌≤◌, ◌≡◌, Bool, List, length, drop}
use Rattle.std.proofs.Math.Path.{refl}
use Rattle.std.proofs.Common.{subst, arith, zero-mul}
use Rattle.std.proofs.Math.Bool.{true, false}
use borrow.Author.Tests.{leb-true, leb-false}
use Rattle.std.proofs.Math.Dec.{leb}
use Rattle.vmd_format.specs.Bytes.{u32}
use Rattle.vmd_format.specs.Refusal.{file_ends_early}
use Rattle.vmd_format.specs.Answer.{Answer, declined, given, and_then}
use Rattle.vmd_format.specs.Read.{Oversized, refuse, emptied, BytesOver, ignored, turned_down, Manner}
use Rattle.vmd_format.specs.Opening.{Scan}
use Rattle.vmd_laws.specs.ExportLaws.{scan_scanned}
use Rattle.vmd_laws.specs.Places.{header_place, Span, extent_in, no_span, over_span, records_span, count_span, span, optional_if, optional_span, walk, over_if, scan_sections, scan_file}
use Rattle.vmd_laws.specs.PlacesLaws.{Holds}
use Rattle.vmd_form.specs.Form.{Counted, end_of}
use Rattle.vmd_form.specs.Laying.{Laid, found, gone, LaidOut, ScannedFrom}

-- ---- one section

record LaidSpan (size : ℕ) (s : List ℕ) (at : ℕ) (x : Span) : Type 0 where
  laid : Laid size s at (extent_in x)
  next : x.next ≡ end_of size (extent_in x)

none_laid : (size : ℕ) (s : List ℕ) (at : ℕ) → (Counted size s at → ⊥) → LaidSpan size s at (no_span s)
unfolding no_span extent_in end_of
none_laid size s at h = record { laid = gone h refl refl; next = rw zero-mul (omega arith) }

module _ (o : Oversized) (size : ℕ) (s : List ℕ) (at : ℕ) where
  span_laid : Holds (LaidSpan size s at) (span o size s at)
  unfolding span count_span records_span over_span extent_in end_of
  span_laid = one (leb (at + 4) (length s)) refl
    where
      over : (o : Oversized) → (Counted size s at → ⊥) → Holds (LaidSpan size s at) (over_span o s)
      over (refuse k) h = tt
      over emptied h = none_laid size s at h

      two : (b : Bool) → leb (u32 (drop at s) * size) (length s - (at + 4)) ≡ b → at + 4 ≤ length s
          → Holds (LaidSpan size s at) (records_span b o size s at)
      two true e h = record {
        laid = found (record { present = h; not_oversized = leb-true (u32 (drop at s) * size) (length s - (at + 4)) e }) refl refl;
        next = refl;
      }
      two false e h = over o (λ (c : Counted size s at). omega (arith, c.not_oversized, leb-false (u32 (drop at s) * size) (length s - (at + 4)) e))

      one : (b : Bool) → leb (at + 4) (length s) ≡ b → Holds (LaidSpan size s at) (count_span b o size s at)
      one true e = two (leb (u32 (drop at s) * size) (length s - (at + 4))) refl (leb-true _ _ e)
      one false e = tt

  optional_laid : Holds (LaidSpan size s at) (optional_span o size s at)
  unfolding optional_span optional_if
  optional_laid = go (leb (length s) at) refl
    where
      go : (b : Bool) → leb (length s) at ≡ b → Holds (LaidSpan size s at) (optional_if b o size s at)
      go true e = none_laid size s at (λ (c : Counted size s at). omega (arith, c.present, leb-true (length s) at e))
      go false e = span_laid

-- ---- all of them

holds_then : {A B : Type 0} (P : A → Type 0) (Q : B → Type 0) (x : Answer A) (f : A → Answer B) → Holds P x → ((a : A) → P a → Holds Q (f a)) → Holds Q (and_then x f)
unfolding and_then
holds_then P Q (declined k) f h g = tt
holds_then P Q (given a) f h g = g a h

holds_over : {A : Type 0} (P : A → Type 0) (b : Bool) (o : BytesOver) (a : A) → P a → Holds P (over_if b o a)
unfolding over_if
holds_over P true o a h = h
holds_over P false ignored a h = h
holds_over P false (turned_down k) a h = tt

any : {A : Type 0} (x : Answer A) → Holds (λ a. Unit {0}) x
any (declined k) = tt
any (given a) = tt

sections_laid : (m : Manner) (s : List ℕ) (at : ℕ) → Holds (LaidOut s at) (scan_sections m s at)
unfolding scan_sections
sections_laid m s at =
    holds_then (LaidSpan 111 s at) (LaidOut s at) (span (refuse file_ends_early) 111 s at) _ (span_laid (refuse file_ends_early) 111 s at) λ b hb.
    holds_then (LaidSpan 23 s b.next) (LaidOut s at) (optional_span (refuse file_ends_early) 23 s b.next) _ (optional_laid (refuse file_ends_early) 23 s b.next) λ f hf.
    holds_then (LaidSpan 61 s f.next) (LaidOut s at) (optional_span m.oversized 61 s f.next) _ (optional_laid m.oversized 61 s f.next) λ c hc.
    holds_then (LaidSpan 28 s c.next) (LaidOut s at) (optional_span m.oversized 28 s c.next) _ (optional_laid m.oversized 28 s c.next) λ l hl.
    holds_then (LaidSpan 9 s l.next) (LaidOut s at) (optional_span m.oversized 9 s l.next) _ (optional_laid m.oversized 9 s l.next) λ d hd.
    holds_then (LaidSpan 9 s d.next) (LaidOut s at) (optional_span (refuse file_ends_early) 9 s d.next) _ (optional_laid (refuse file_ends_early) 9 s d.next) λ p hp.
    holds_then (λ w. Unit {0}) (LaidOut s at) (walk s p.count p.place 0) _ (any (walk s p.count p.place 0)) λ w hw.
    holds_over (LaidOut s at) (leb (length s) w.next) m.over _ (record {
      bones = hb.laid;
      morphs = rw hb.next at hf.laid;
      cameras = rw hf.next at hc.laid;
      lights = rw hc.next at hl.laid;
      self_shadows = rw hl.next at hd.laid;
      properties = rw hd.next at hp.laid;
    })

pub scanned_from : (m : Manner) (s : List ℕ) (x : Scan) → scan_file m s ≡ given x → ScannedFrom s x
unfolding scan_file and_then
scanned_from m s x e = go (header_place s) refl e
  where
    two : (at : ℕ) (y : Answer Scan) → y ≡ given x → Holds (LaidOut s at) y → LaidOut s at x
    two at (declined k) e h = let z : ◌≡◌ {A = ℕ} 0 1 = cc in absurd (omega arith)
    two at (given y) e h = subst (LaidOut s at) (cc) h

    go : (a : Answer ℕ) → header_place s ≡ a → and_then a (scan_sections m s) ≡ given x → ScannedFrom s x
    go (declined k) f e = let z : ◌≡◌ {A = ℕ} 0 1 = cc in absurd (omega arith)
    go (given at) f e = record { header = record { at = at; place = f }; laid = two at (scan_sections m s at) e (sections_laid m s at); scanned = scan_scanned m s x (unfold scan_file and_then in rw f e) }
