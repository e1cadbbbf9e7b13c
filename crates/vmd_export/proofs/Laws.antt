-- Laws of saving: two files written one after the other are an export and a join. Assumes nothing.
use Prim.Native.Nat.{ℕ, ◌+◌, ◌≤◌, ◌<◌}
use mathlib.Core.Path.{◌≡◌, refl, ap, sym, ◌∙◌}
use mathlib.Core.Bool.{Bool, true, false, and-eq-true_iff}
use mathlib.Core.List.{List, [], ◌∷◌, ◌++◌, append-nil}
use native.Mathlib.Omega.{arith}
use borrow.Author.Tests.{le-leb, lt-leb, leb-true}
use lib.Dec.{leb}
use lib.ListN.{length}
use Rattle.vmd_format.specs.Refusal.{Refusal, count_too_large, model_name_too_long}
use Rattle.vmd_format.specs.Answer.{Answer, declined, given, and_then, map_answer, unless, fitted, within}
use Rattle.vmd_format.specs.Read.{Manner, table}
use Rattle.vmd_format.specs.Take.{Edition, newer, older, model_width, Take, take_of, read_take, write_header, write_sections, write_edition, write_take}
use Rattle.vmd_format.specs.Opening.{ik_total, Scan}
use Rattle.vmd_format.specs.Fetch.{model_of}
use Rattle.vmd_laws.specs.Places.{walk, scan_file}
use Rattle.vmd_laws.specs.PlacesLaws.{section_in, frames_in}
use Rattle.vmd_laws.specs.ScanLaws.{file_in, ExtentWithin, Inside}
use Rattle.vmd_laws.specs.Lengths.{edition_length}
use Rattle.vmd_format.specs.Join.{export_file, edition_take, older_file, joined_model, join, fit_together, join_takes, join_files}
use Rattle.vmd_laws.specs.ExportLaws.{take_in, Scanned, scan_scanned, take_by_places, join_by_places, scan_counts, join_length, join_fits}
use Rattle.vmd_laws.specs.EditionLaws.{take_model_short}
use Rattle.vmd_laws.specs.InsideLaws.{inside_reaches, inside_ends}
use Rattle.vmd_output.specs.Sections.{Frames, records_of, frames_of}
use Rattle.vmd_bytes.specs.Written.{Wrote, Rest}
use Rattle.vmd_bytes.proofs.Writes.{rest_as}
use Rattle.vmd_output.proofs.Saves.{Saves, given_answer, saves_over, saves_room, saves_wrote}
use Rattle.vmd_scan.specs.Meaning.{scan_is}
use Rattle.vmd_export.specs.declared.both.VmdBoth.{VmdBoth}
use Rattle.vmd_export.specs.Together.{no_scan, Sums, sums_fit, sum_length, scan_fitting, scan_both, Both, edition_file, back_bytes, sections_bytes, take_of_both}

-- ---- two files

pub both_of : (b : VmdBoth) → Both b.first.file.now (scan_is b.first.sections) b.second.file.now (scan_is b.second.sections)
both_of b = record { first = b.first.scanned; second = b.second.scanned; sums = b.sums }

module _ {s : List ℕ} {x : Scan} {t : List ℕ} {y : Scan} (b : Both s x t y) where
  pub property_frames : Frames s x.properties t y.properties
  property_frames = record {
    first = inside_reaches s x b.first.inside;
    second = inside_reaches t y b.second.inside;
    sum = b.sums.properties;
  }

  -- their take under a model name, in an edition: its bytes and its length
  module _ (e : Edition) (m : List ℕ) where
    abbrev bytes : List ℕ
    bytes = write_edition e (take_of_both m s x t y)

    bytes_are : bytes ≡ write_header e m ++ sections_bytes s x t y
    unfolding write_edition write_sections take_of_both sections_bytes back_bytes
    bytes_are = refl

    both_length : length bytes ≡ sum_length e x y
    unfolding sum_length take_of_both join take_in take_of file_in section_in records_of frames_of
    both_length =
        edition_length e (take_of_both m s x t y) ∙ sym (edition_length e (join (take_in s x) (take_in t y)))
        ∙ join_length e (take_in s x) (take_in t y) x y (scan_counts s x b.first) (scan_counts t y b.second)

    pub both_size : (n : ℕ) → within n (sum_length e x y) ≡ map_answer length (fitted n (given bytes))
    both_size n = given_answer bytes both_length n

    -- the output is too short; it has room, and all is left to be written; all was written
    pub take_over : {out : List ℕ} (k : Refusal) → declined k ≡ within (length out) (sum_length e x y) → Saves (given bytes) out (declined k) out
    take_over k e = saves_over bytes both_length k e

    module _ {out : List ℕ} (n : ℕ) (h : given n ≡ within (length out) (sum_length e x y)) where
      pub take_rest : Rest out 0 bytes out 0 (write_header e m ++ sections_bytes s x t y)
      take_rest = rest_as bytes_are (saves_room bytes both_length n h)

      pub take_wrote : {o : List ℕ} {r : ℕ} → Wrote out 0 bytes o r → Saves (given bytes) out (given r) o
      take_wrote w = saves_wrote (saves_room bytes both_length n h) w

-- ---- an export is a take and nothing

pub no_scanned : (s : List ℕ) → Scanned s no_scan
unfolding no_scan walk ik_total frames_in
no_scanned s = record { inside = none; ik_states = refl }
  where
    nothing : (w : ℕ) → ExtentWithin w s (record { count = 0; place = 0 })
    nothing w = record { place = omega arith; ends = omega arith }

    none : Inside s no_scan
    none = record {
      bones = nothing 111;
      morphs = nothing 23;
      cameras = nothing 61;
      lights = nothing 28;
      self_shadows = nothing 9;
      properties = nothing 9;
      next = 0;
      walked = refl;
    }

module _ (how : Manner) (s : List ℕ) where
  alone_take : (x : Scan) → take_of_both (model_of s) s x s no_scan ≡ take_in s x
  unfolding take_in take_of_both take_of file_in records_of frames_of section_in table frames_in no_scan
  alone_take x = simp append-nil

  -- a model name that is read is never too long for the newer edition
  edition_fits : (e : Edition) → edition_file e how s ≡ and_then (read_take how s) (edition_take e)
  unfolding export_file older_file edition_take and_then map_answer write_take unless
  edition_fits newer = go (read_take how s) refl
    where
      go : (a : Answer Take) → read_take how s ≡ a → map_answer (write_edition newer) a ≡ and_then a (edition_take newer)
      go (declined k) e = refl
      go (given t) e = rw (le-leb (length t.model) 20 (take_model_short how s t e))
  edition_fits older = refl

  module _ (e : Edition) where
    abbrev room : Bool
    room = leb (length (model_of s)) (model_width e)

    edition_by_places : edition_file e how s ≡ map_answer (λ x. write_edition e (take_in s x)) (scan_fitting e how s)
    unfolding scan_fitting edition_take and_then map_answer unless take_in take_of file_in
    edition_by_places = edition_fits e ∙ rw (take_by_places how s) (go (scan_file how s))
      where
        two : (x : Scan) (b : Bool)
            → unless b model_name_too_long (given (write_edition e (take_in s x)))
            ≡ map_answer (λ x. write_edition e (take_in s x)) (unless b model_name_too_long (given x))
        two x true = refl
        two x false = refl

        go : (y : Answer Scan) → and_then (map_answer (take_in s) y) (edition_take e)
            ≡ map_answer (λ x. write_edition e (take_in s x)) (and_then y (λ x. unless room model_name_too_long (given x)))
        go (declined k) = refl
        go (given x) = two x room

    -- what a scan with a look at the model name gives
    pub fitting_refused : (k : Refusal) → scan_file how s ≡ declined k → declined k ≡ scan_fitting e how s
    unfolding scan_fitting and_then
    fitting_refused k q = rw q

    module _ (x : Scan) (q : scan_file how s ≡ given x) (m : List ℕ) (g : m ≡ model_of s) where
      pub fitting_long : model_width e < length m → declined model_name_too_long ≡ scan_fitting e how s
      unfolding scan_fitting and_then unless
      fitting_long h = rw (q, ← g, lt-leb (length m) (model_width e) h)

      pub fitting_found : length m ≤ model_width e → given x ≡ scan_fitting e how s
      unfolding scan_fitting and_then unless
      fitting_found h = rw (q, ← g, le-leb (length m) (model_width e) h)

    pub export_refused : (k : Refusal) → scan_fitting e how s ≡ declined k → edition_file e how s ≡ declined k
    unfolding map_answer
    export_refused k q = edition_by_places ∙ rw q

    module _ (x : Scan) (q : scan_fitting e how s ≡ given x) where
      pub export_given : given (write_edition e (take_of_both (model_of s) s x s no_scan)) ≡ edition_file e how s
      unfolding map_answer
      export_given = rw (alone_take x) (sym (edition_by_places ∙ rw q))

-- ---- a join

-- all six sums fit
sums_are : (x y : Scan) → sums_fit x y ≡ true → x.ik_states + y.ik_states ≤ 18446744073709551615 → Sums x y
unfolding sums_fit
sums_are x y e h =
    let p = (and-eq-true_iff _ _).0 e in
    let s = (and-eq-true_iff _ _).0 p.0 in
    let l = (and-eq-true_iff _ _).0 s.0 in
    let c = (and-eq-true_iff _ _).0 l.0 in
    let m = (and-eq-true_iff _ _).0 c.0 in
    record {
      bones = leb-true _ _ m.0;
      morphs = leb-true _ _ m.1;
      cameras = leb-true _ _ c.1;
      lights = leb-true _ _ l.1;
      self_shadows = leb-true _ _ s.1;
      properties = leb-true _ _ p.1;
      ik_states = h;
    }

-- the IK states of both fit 64 bits, since each has its bytes
pub both_sums : (s t : List ℕ) (x y : Scan) → sums_fit x y ≡ true → Scanned s x → Scanned t y → length s ≤ 18446744073709551615 → length t ≤ 18446744073709551615 → Sums x y
both_sums s t x y e a b h k = sums_are x y e (omega (arith, inside_ends s x a.inside, inside_ends t y b.inside))

module _ (how : Manner) (s t : List ℕ) where
  pub first_refused : (k : Refusal) → scan_file how s ≡ declined k → declined k ≡ scan_both how s t
  unfolding scan_both and_then
  first_refused k e = rw e

  pub second_refused : (x : Scan) (k : Refusal) → scan_file how s ≡ given x → scan_file how t ≡ declined k → declined k ≡ scan_both how s t
  unfolding scan_both and_then
  second_refused x k e f = rw (e, f)

  module _ (x y : Scan) (e : scan_file how s ≡ given x) (f : scan_file how t ≡ given y) where
    pub both_over : sums_fit x y ≡ false → declined count_too_large ≡ scan_both how s t
    unfolding scan_both and_then unless
    both_over g = rw (e, f, g)

    pub both_found : sums_fit x y ≡ true → given (x, y) ≡ scan_both how s t
    unfolding scan_both and_then unless
    both_found g = rw (e, f, g)

  joined_take : (x y : Scan) → take_of_both (joined_model (model_of s) (model_of t)) s x t y ≡ join (take_in s x) (take_in t y)
  unfolding take_of_both join take_in take_of file_in section_in records_of frames_of
  joined_take x y = refl

  join_fitted : (x y : Scan) → Scanned s x → Scanned t y → fit_together (take_in s x) (take_in t y) ≡ sums_fit x y
  unfolding sums_fit
  join_fitted x y a b = join_fits (take_in s x) (take_in t y) x y (scan_counts s x a) (scan_counts t y b)

  join_is : join_files how s t
      ≡ map_answer (λ p. write_take (take_of_both (joined_model (model_of s) (model_of t)) s p.0 t p.1)) (scan_both how s t)
  unfolding scan_both and_then map_answer join_takes unless
  join_is = join_by_places how s t ∙ one (scan_file how s) (scan_file how t) refl refl
    where
      bytes : Scan × Scan → List ℕ
      bytes p = write_take (take_of_both (joined_model (model_of s) (model_of t)) s p.0 t p.1)

      two : (u v : Scan) (b : Bool) → unless b count_too_large (given (write_take (join (take_in s u) (take_in t v))))
          ≡ map_answer bytes (unless b count_too_large (given (u, v)))
      two u v true = ap (λ t. given (write_take t)) (sym (joined_take u v))
      two u v false = refl

      one : (a b : Answer Scan) → scan_file how s ≡ a → scan_file how t ≡ b
          → and_then a (λ x. and_then b (λ y. join_takes (take_in s x) (take_in t y)))
          ≡ map_answer bytes (and_then a (λ u. and_then b (λ v. unless (sums_fit u v) count_too_large (given (u, v)))))
      one (declined k) b p q = refl
      one (given u) (declined k) p q = refl
      one (given u) (given v) p q =
          rw (join_fitted u v (scan_scanned how s u p) (scan_scanned how t v q)) (two u v (sums_fit u v))

  pub join_refused : (k : Refusal) → scan_both how s t ≡ declined k → join_files how s t ≡ declined k
  unfolding map_answer
  join_refused k e = join_is ∙ rw e

  pub join_given : (x y : Scan) (m : List ℕ) → scan_both how s t ≡ given (x, y) → m ≡ joined_model (model_of s) (model_of t)
      → given (write_edition newer (take_of_both m s x t y)) ≡ join_files how s t
  unfolding map_answer write_take
  join_given x y m e g = rw g (sym (join_is ∙ rw e))

pub model_kept : (m n : List ℕ) → 0 < length m → m ≡ joined_model m n
unfolding joined_model
model_kept [] n h = absurd (omega arith)
model_kept (b ∷ m) n h = refl

pub model_other : (m n : List ℕ) → length m ≡ 0 → n ≡ joined_model m n
unfolding joined_model
model_other [] n h = refl
model_other (b ∷ m) n h = absurd (omega arith)
