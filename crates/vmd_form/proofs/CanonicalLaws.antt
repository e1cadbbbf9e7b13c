-- The laws of canonical files (02 l), in every manner of reading.
use Rattle.std.specs.Prelude.{ℕ, ◌≡◌, refl, ◌↔◌, Bool, true, false, List, ◌++◌, leb, length, take, drop}
use Rattle.std.proofs.Common.{ap, sym, ◌∙◌, arith, le-leb, leb-true, take-append-drop}
use Rattle.vmd_format.specs.Refusal.{Refusal, scratch_too_short}
use Rattle.vmd_format.specs.Answer.{Answer, declined, given, and_then, map_answer, unless}
use Rattle.vmd_format.specs.Read.{Manner, strict, lenient}
use Rattle.vmd_format.specs.Take.{Take, magic, older_magic, older, edition, edition_if, same, magic_of, read_take, write_header, write_edition, write_take}
use Rattle.vmd_format.specs.Opening.{Opening, Scan, places_needed, open_file}
use Rattle.vmd_format.specs.Join.{export_file}
use Rattle.vmd_laws.specs.BytesLaws.{Bytes}
use Rattle.vmd_laws.specs.ExportLaws.{take_in}
use Rattle.vmd_laws.specs.MannerLaws.{Stricter, of_reading}
use Rattle.vmd_laws.specs.OpeningLaws.{open_by_places, ScratchEnough, accepts}
use Rattle.vmd_laws.specs.Places.{scan_file, open_scan, opening_at}
use Rattle.vmd_laws.specs.RefusalLaws.{Refuses, reading_numbers, reading_refuses}
use Rattle.vmd_laws.specs.SavingLaws.{Accepted, well_formed, export_is}
use Rattle.vmd_laws.specs.TakeLaws.{WellFormed, take_small, take_back}
use Rattle.vmd_form.specs.Canonical.{canonical, Change, nowhere, at_place, change_if, change_from, first_change}
use Rattle.vmd_form.proofs.ChangeLaws.{is_nowhere, canonical_change, same_is, FirstDifference, difference_found}
use Rattle.vmd_form.specs.Compare.{Compared, agrees, differs, compare_at, change_at, change_over}
use Rattle.vmd_form.specs.CompareLaws.{compared_stands}
use Rattle.vmd_form.specs.Form.{Form}
use Rattle.vmd_form.proofs.FormLaws.{whole_form}
use Rattle.vmd_form.specs.LayingLaws.{scanned_from}
use Rattle.vmd_form.proofs.WholeLaws.{scanned_change}

-- ---- the form

-- yes where the file is compared to its end
yes_compared : (s v : List ℕ) → (is_nowhere (change_at (length s) (compare_at s 0 v)) ≡ true) ↔ (compare_at s 0 v ≡ agrees (length s))
unfolding is_nowhere change_at change_over
yes_compared s v = (λ e. go (compare_at s 0 v) refl e, λ e. rw (e, le-leb (length s) (length s) (omega arith)) refl)
  where
    two : (q : ℕ) (x : Bool) → leb (length s) q ≡ x → compare_at s 0 v ≡ agrees q → is_nowhere (change_over x q) ≡ true → agrees q ≡ agrees (length s)
    two q true f g e = let d = compared_stands 0 s v q g in let h : q ≡ length s = omega (arith, leb-true (length s) q f, d.next, d.fits) in ap agrees h
    two q false f g e = let z : ◌≡◌ {A = ℕ} 0 1 = cc in absurd (omega arith)

    go : (c : Compared) → compare_at s 0 v ≡ c → is_nowhere (change_at (length s) c) ≡ true → compare_at s 0 v ≡ agrees (length s)
    go (agrees q) f e = f ∙ two q (leb (length s) q) refl f e
    go (differs q) f e = let z : ◌≡◌ {A = ℕ} 0 1 = cc in absurd (omega arith)

scanned_canonical : (m : Manner) (s : List ℕ) (x : Scan) → scan_file m s ≡ given x → canonical m s ≡ given (is_nowhere (change_at (length s) (compare_at s 0 (write_take (take_in s x)))))
unfolding map_answer
scanned_canonical m s x e = canonical_change m s ∙ ap (map_answer is_nowhere) (scanned_change m s x e)

given_is : {A : Type 0} (a b : A) → given a ≡ given b → a ≡ b
given_is a b e = cc

scanned_form : (m : Manner) (s : List ℕ) (x : Scan) → Bytes s → scan_file m s ≡ given x → (canonical m s ≡ given true) ↔ Form s x
scanned_form m s x b e =
    let c = scanned_canonical m s x e in
    let y = yes_compared s (write_take (take_in s x)) in
    let w = whole_form b (scanned_from m s x e) in
    (λ h. w.0 (y.0 (given_is _ true (sym c ∙ h))), λ f. c ∙ ap given (y.1 (w.1 f)))

-- an opening that is given has the file's scan
opened_scan : (m : Manner) (s : List ℕ) (places : ℕ) (o : Opening) → open_file m s places ≡ given o → scan_file m s ≡ given o.scan
unfolding and_then open_scan opening_at unless
opened_scan m s places o e = go (scan_file m s) refl (sym (open_by_places m s places) ∙ e)
  where
    two : (x : Scan) (b : Bool) → unless b scratch_too_short (given (opening_at s x)) ≡ given o → x ≡ o.scan
    two x true e = ap (λ (a : Opening). a.scan) (given_is (opening_at s x) o e)
    two x false e = let z : ◌≡◌ {A = ℕ} 0 1 = cc in absurd (omega arith)

    go : (y : Answer Scan) → scan_file m s ≡ y → and_then y (open_scan s places) ≡ given o → scan_file m s ≡ given o.scan
    go (declined k) f e = let z : ◌≡◌ {A = ℕ} 0 1 = cc in absurd (omega arith)
    go (given x) f e = f ∙ ap given (two x (leb (places_needed x.properties.count) places) e)

-- "This is shown to be the same as being accepted with" the form: of a file that is opened
pub canonical_form : (m : Manner) (s : List ℕ) (places : ℕ) (o : Opening) → Bytes s → open_file m s places ≡ given o
    → (canonical m s ≡ given true) ↔ Form s o.scan
canonical_form m s places o b e = scanned_form m s o.scan b (opened_scan m s places o e)

-- ---- yes, no and refusals

-- "It is yes exactly when the file is accepted and equals its export."
pub canonical_export : (m : Manner) (s : List ℕ) → (canonical m s ≡ given true) ↔ (export_file m s ≡ given s)
unfolding canonical map_answer
canonical_export m s = (λ e. go (export_file m s) refl e, λ e. rw e (ap given ((same_is s s).1 refl)))
  where
    go : (x : Answer (List ℕ)) → export_file m s ≡ x → map_answer (same s) x ≡ given true → export_file m s ≡ given s
    go (declined k) f e = let z : ◌≡◌ {A = ℕ} 0 1 = cc in absurd (omega arith)
    go (given v) f e = f ∙ ap given (sym ((same_is s v).0 (given_is (same s v) true e)))

-- a canonical file is the one that is written of its take
pub canonical_written : (m : Manner) {s : List ℕ} {t : Take} → Accepted m s t → (canonical m s ≡ given true) ↔ (s ≡ write_take t)
canonical_written m {s} {t} h = let c = canonical_export m s in let e = export_is m h in (λ y. given_is s (write_take t) (sym (c.0 y) ∙ e), λ y. c.1 (e ∙ ap given (sym y)))

-- "A refused file gets its number": exactly the refusals of reading, before any yes or no
pub refusals_of_reading : (m : Manner) (s : List ℕ) (k : Refusal)
    → ((canonical m s ≡ declined k) ↔ (read_take m s ≡ declined k)) × ((first_change m s ≡ declined k) ↔ (read_take m s ≡ declined k))
unfolding canonical first_change export_file map_answer
refusals_of_reading m s k = (
  (λ e. told (read_take m s) (same s) e, λ e. rw e refl),
  (λ e. told (read_take m s) (change_from 0 s) e, λ e. rw e refl),
)
  where
    told : {A : Type 0} (x : Answer Take) (f : List ℕ → A) → map_answer f (map_answer write_take x) ≡ declined k → x ≡ declined k
    told (declined j) f e = let q : j ≡ k = cc in ap declined q
    told (given t) f e = let z : ◌≡◌ {A = ℕ} 0 1 = cc in absurd (omega arith)

pub canonical_refuses : (m : Manner) (s : List ℕ) → Refuses (reading_numbers m) (canonical m s) × Refuses (reading_numbers m) (first_change m s)
unfolding canonical first_change export_file map_answer
canonical_refuses m s = (go (read_take m s) (same s) (reading_refuses m s), go (read_take m s) (change_from 0 s) (reading_refuses m s))
  where
    go : {A : Type 0} (x : Answer Take) (f : List ℕ → A) → Refuses (reading_numbers m) x → Refuses (reading_numbers m) (map_answer f (map_answer write_take x))
    go (declined j) f h = h
    go (given t) f h = tt

-- ---- one file for each take

-- the file of a take that can be written is canonical, in every manner
pub written_canonical : (m : Manner) (t : Take) → WellFormed t → canonical m (write_take t) ≡ given true
written_canonical m t w = (canonical_written m (record { bytes = take_small t w; reads = take_back m t w })).1 refl

-- "So each sequence of records read and model name has one such file.": the export is one
pub export_canonical : (m any : Manner) {s : List ℕ} {t : Take} → Accepted m s t → and_then (export_file m s) (canonical any) ≡ given true
unfolding and_then
export_canonical m any {s} {t} h = rw (export_is m h) (written_canonical any t (well_formed m h))

-- and there is no other, in whichever manners the two are read
pub one_canonical : (m n : Manner) {s r : List ℕ} {t : Take} → Accepted m s t → Accepted n r t → canonical m s ≡ given true → canonical n r ≡ given true → s ≡ r
one_canonical m n h k y z = (canonical_written m h).0 y ∙ sym ((canonical_written n k).0 z)

-- ---- the manners

-- a canonical file is accepted: what it reads as
accepted_of : (m : Manner) (s : List ℕ) → Bytes s → canonical m s ≡ given true → (t : Take) × Accepted m s t
unfolding canonical export_file map_answer
accepted_of m s b y = go (read_take m s) refl y
  where
    go : (x : Answer Take) → read_take m s ≡ x → map_answer (same s) (map_answer write_take x) ≡ given true → (t : Take) × Accepted m s t
    go (declined k) f e = let z : ◌≡◌ {A = ℕ} 0 1 = cc in absurd (omega arith)
    go (given t) f e = (t, record { bytes = b; reads = f })

-- A file that is canonical in one manner is so in every other.
pub canonical_in_any : (m any : Manner) (s : List ℕ) → Bytes s → canonical m s ≡ given true → canonical any s ≡ given true
canonical_in_any m any s b y =
    let a = accepted_of m s b y in
    let e = (canonical_written m a.1).0 y in
    rw e (written_canonical any a.0 (well_formed m a.1))

-- So a file that one manner turns down is canonical in none: one with bytes over, or an oversized count, is not canonical in the
-- lenient one.
pub never_canonical : (m any : Manner) (s : List ℕ) (k : Refusal) → Bytes s → read_take m s ≡ declined k → canonical any s ≡ given true → ⊥
never_canonical m any s k b e y =
    let c = canonical_in_any any m s b y in
    let d = (refusals_of_reading m s k).0.1 e in
    let z : ◌≡◌ {A = ℕ} 0 1 = cc in omega arith

-- "the same as being accepted with" the form: opening it, with scratch enough, gives no refusal, and the form is seen at the
-- places that opening gives
pub record AcceptedWithForm (m : Manner) (s : List ℕ) (places : ℕ) : Type 0 where
  pub opening : Opening
  pub opened : open_file m s places ≡ given opening
  pub form : Form s opening.scan

pub canonical_exactly : (m : Manner) (s : List ℕ) (places : ℕ) → Bytes s → ScratchEnough m s places → (canonical m s ≡ given true) ↔ AcceptedWithForm m s places
canonical_exactly m s places b n = (there, λ f. (canonical_form m s places f.opening b f.opened).1 f.form)
  where
    there : canonical m s ≡ given true → AcceptedWithForm m s places
    there y =
        let a = accepted_of m s b y in
        let o = (accepts m s places n).0 (a.0, a.1.reads) in
        record { opening = o.0; opened = o.1; form = (canonical_form m s places o.0 b o.1).0 y }

-- strict beside lenient; neither is lent anything
pub stricter_canonical : (s : List ℕ) → Stricter {L = Unit {0}} tt (canonical strict s) tt (canonical lenient s) tt
unfolding canonical export_file map_answer
stricter_canonical s = of_reading tt (λ x. map_answer (same s) (map_answer write_take x)) (λ x. tt) (λ k. refl) (λ k. refl) s

pub stricter_change : (s : List ℕ) → Stricter {L = Unit {0}} tt (first_change strict s) tt (first_change lenient s) tt
unfolding first_change export_file map_answer
stricter_change s = of_reading tt (λ x. map_answer (change_from 0 s) (map_answer write_take x)) (λ x. tt) (λ k. refl) (λ k. refl) s

-- ---- the first change

-- none for a canonical file, and for no other
pub none_canonical : (m : Manner) (s : List ℕ) → (first_change m s ≡ given nowhere) ↔ (canonical m s ≡ given true)
unfolding map_answer is_nowhere
none_canonical m s = (λ e. canonical_change m s ∙ ap (map_answer is_nowhere) e, λ e. go (first_change m s) refl (sym (canonical_change m s) ∙ e))
  where
    go : (x : Answer Change) → first_change m s ≡ x → map_answer is_nowhere x ≡ given true → first_change m s ≡ given nowhere
    go (declined k) f e = let z : ◌≡◌ {A = ℕ} 0 1 = cc in absurd (omega arith)
    go (given nowhere) f e = f
    go (given (at_place n)) f e = let z : ◌≡◌ {A = ℕ} 0 1 = cc in absurd (omega arith)

-- what a place says of the file and its export
pub change_is_first : (m : Manner) {s : List ℕ} {t : Take} (n : ℕ) → Accepted m s t → first_change m s ≡ given (at_place n) → FirstDifference s (write_take t) n
unfolding first_change map_answer
change_is_first m {s} {t} n h e =
    let f : change_from 0 s (write_take t) ≡ at_place n = given_is _ _ (sym (ap (map_answer (change_from 0 s)) (export_is m h)) ∙ e) in
    difference_found 0 s (write_take t) n (f ∙ ap at_place (omega arith))

-- the older edition is told by its magic
older_told : (s : List ℕ) → edition s ≡ given older → take 26 s ≡ older_magic
unfolding edition edition_if
older_told s e = (same_is (take 26 s) older_magic).0 (go (same (take 26 s) magic) (same (take 26 s) older_magic) e)
  where
    go : (x y : Bool) → edition_if x y ≡ given older → y ≡ true
    go true y f = let z : ◌≡◌ {A = ℕ} 0 1 = cc in absurd (omega arith)
    go false true f = refl
    go false false f = let z : ◌≡◌ {A = ℕ} 0 1 = cc in absurd (omega arith)

-- 21 for every file of the older edition that is accepted, so that none is canonical
pub older_change : (m : Manner) {s : List ℕ} {t : Take} → Accepted m s t → edition s ≡ given older → first_change m s ≡ given (at_place 21)
unfolding first_change map_answer write_take write_edition write_header magic_of magic older_magic change_from change_if
older_change m {s} {t} h e =
    let d : s ≡ older_magic ++ drop 26 s = sym (take-append-drop 26 s) ∙ ap (λ (l : List ℕ). l ++ drop 26 s) (older_told s e) in
    ap (map_answer (change_from 0 s)) (export_is m h) ∙ ap (λ (l : List ℕ). given (change_from 0 l (write_take t))) d

pub older_not_canonical : (m : Manner) {s : List ℕ} {t : Take} → Accepted m s t → edition s ≡ given older → canonical m s ≡ given false
unfolding map_answer is_nowhere
older_not_canonical m {s} h e = canonical_change m s ∙ ap (map_answer is_nowhere) (older_change m h e)

-- what the converter writes is of the older edition
pub converted_older : (t : Take) → edition (write_edition older t) ≡ given older
unfolding edition edition_if same write_edition write_header magic_of magic older_magic
converted_older t = refl
