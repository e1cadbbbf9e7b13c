-- Files of the older edition (02 e): how long a model name is, that all other files read as before, and that an older file
-- reads as its widened one.
use Prim.Native.Nat.{ℕ, zero, suc, ◌+◌, ◌*◌, ◌-◌, ◌≤◌, ◌<◌}
use Rattle.std.proofs.Math.Path.{◌≡◌, refl, sym}
use Rattle.std.proofs.Common.{ap, ◌∙◌, arith, length-append}
use Rattle.std.specs.Prelude.{Bool, take, replicate}
use Rattle.std.proofs.Math.Bool.{true, false}
use mathlib.Core.List.{List, [], ◌∷◌, ◌++◌, map, append_assoc}
use borrow.Author.Tests.{le-leb, lt-leb, leb-true, leb-false}
use Rattle.std.proofs.Math.ListN.{length, drop, length-take, length-drop}
use Rattle.std.proofs.lemmas.List.{length-replicate}
use Rattle.std.proofs.Math.Seq.{take_at, drop_at, drop-drop}
use Rattle.std.proofs.Math.Dec.{leb}
use Rattle.vmd_format.specs.Bytes.{before_zero}
use Rattle.vmd_laws.specs.BytesLaws.{length_before_zero}
use Rattle.vmd_format.specs.Refusal.{Refusal, file_ends_early, magic_differs, scratch_too_short}
use Rattle.vmd_format.specs.Answer.{Answer, declined, given, map_answer, unless}
use Rattle.vmd_format.specs.Records.{Property}
use Rattle.vmd_format.specs.Read.{Step, refused, got, Reader, bind, Section, Manner}
use Rattle.vmd_format.specs.Take.{Take, File, take_of, Edition, newer, older, magic, older_magic, magic_of, model_width, same, edition_if, edition, model_if, magic_if, header_if, header, sections, read_file, read_take, widened}
use Rattle.vmd_laws.specs.TakeLaws.{Begun, begun}
use Rattle.vmd_format.specs.Opening.{positions, places_needed, sixteenths, sixteenth_positions, Extent, Scan, Opening, extent_of, scan_of, opening_of, opened, open_file, scratch_if, scratch_of, scratch_after}
use Rattle.vmd_format.specs.Fetch.{model_in, model_of}
use Rattle.vmd_laws.specs.ScanLaws.{header_of, file_in, Agrees, Matches, file_agrees}
use Rattle.vmd_laws.specs.Places.{scan_file}
use Rattle.vmd_laws.specs.PlacesLaws.{section_in}
use Rattle.vmd_laws.specs.OpeningLaws.{positions_length, sixteenth_length}
use Rattle.vmd_laws.specs.ExportLaws.{take_in, take_by_places}

-- ---- model names

-- a model name is no longer than its edition's field
pub model_fits : (s : List ℕ) (e : Edition) → edition s ≡ given e → length (model_of s) ≤ model_width e
unfolding model_of model_in model_if
model_fits s e q = rw (header_of s e q) (go (leb (30 + model_width e) (length s)))
  where
    go : (b : Bool) → length (model_in (model_if b (model_width e) s)) ≤ model_width e
    go true =
        let n = take (model_width e) (drop 30 s) in
        omega (arith, length_before_zero n, length-take (model_width e) (drop 30 s))
    go false = omega arith

pub model_short : (s : List ℕ) → length (model_of s) ≤ 20
unfolding model_of model_in header header_if magic_if
model_short s = go (edition s) refl
  where
    other : (b : Bool) (k : Refusal) → edition s ≡ declined k → length (model_in (header_if b s)) ≤ 20
    other true k q = rw q (omega arith)
    other false k q = omega arith

    go : (x : Answer Edition) → edition s ≡ x → length (model_of s) ≤ 20
    go (given newer) q = model_fits s newer q
    go (given older) q = omega (arith, model_fits s older q)
    go (declined k) q = other (leb 30 (length s)) k q

-- the model name of a take that is read is the file's
pub take_model : (m : Manner) (s : List ℕ) (t : Take) → read_take m s ≡ given t → t.model ≡ model_of s
unfolding map_answer take_in take_of file_in
take_model m s t e = go (scan_file m s) (sym (take_by_places m s) ∙ e)
  where
    go : (x : Answer Scan) → map_answer (take_in s) x ≡ given t → t.model ≡ model_of s
    go (declined k) q = let z : ◌≡◌ {A = ℕ} 0 1 = cc in absurd (omega arith)
    go (given x) q = let r : take_in s x ≡ t = cc in sym (ap (λ u. u.model) r)

pub take_model_short : (m : Manner) (s : List ℕ) (t : Take) → read_take m s ≡ given t → length t.model ≤ 20
take_model_short m s t e = rw (take_model m s t e) (model_short s)

-- ---- "files of the newer edition read as before"

-- the header as it was read before 02 e): 1 below 30 bytes, 2 where the magic differs, 1 below 50
unfoldable pub model_before : Bool → Reader (List ℕ)
model_before true s = got (before_zero (take 20 (drop 30 s))) (drop 50 s)
model_before false s = refused file_ends_early

unfoldable pub magic_before : Bool → Reader (List ℕ)
magic_before true s = model_before (leb 50 (length s)) s
magic_before false s = refused magic_differs

unfoldable pub start_before : Bool → Reader (List ℕ)
start_before true s = magic_before (same (take 26 s) magic) s
start_before false s = refused file_ends_early

unfoldable pub header_before : Reader (List ℕ)
header_before s = start_before (leb 30 (length s)) s

-- "They were turned down with 2"
pub turned_down_before : (s : List ℕ) → edition s ≡ given older → 30 ≤ length s → header_before s ≡ refused magic_differs
unfolding edition edition_if header_before start_before magic_before
turned_down_before s e h = rw (le-leb 30 (length s) h) (go (same (take 26 s) magic) (same (take 26 s) older_magic) e)
  where
    go : (x y : Bool) → edition_if x y ≡ given older → magic_before x s ≡ refused magic_differs
    go true y q = let z : ◌≡◌ {A = ℕ} 0 1 = cc in absurd (omega arith)
    go false y q = refl

-- every file that is not of the older edition reads as before, or is refused as before; what reads a file reads its header by
-- this one, and then its sections
pub header_as_before : (s : List ℕ) → (edition s ≡ given older → ⊥) → header s ≡ header_before s
unfolding header header_if magic_if model_if edition edition_if header_before start_before magic_before model_before
header_as_before s h = one (leb 30 (length s))
  where
    three : (b : Bool) → model_if b 20 s ≡ model_before b s
    three true = refl
    three false = refl

    two : (x y : Bool) → (edition_if x y ≡ given older → ⊥) → magic_if (edition_if x y) s ≡ magic_before x s
    two true y n = three (leb 50 (length s))
    two false true n = absurd (n refl)
    two false false n = refl

    one : (b : Bool) → header_if b s ≡ start_before b s
    one true = two (same (take 26 s) magic) (same (take 26 s) older_magic) h
    one false = refl

pub read_as_before : (m : Manner) (s : List ℕ) → (edition s ≡ given older → ⊥) → read_file m s ≡ bind (header_before s) (sections m)
unfolding read_file
read_as_before m s h = rw (header_as_before s h)

-- ---- "the Rust's reading after its header is widened to 50 bytes"

zeros_after : (l : List ℕ) (k : ℕ) → before_zero (l ++ replicate k 0) ≡ before_zero l
unfolding before_zero
zeros_after [] zero = refl
zeros_after [] (suc k) = refl
zeros_after (zero ∷ l) k = refl
zeros_after (suc b ∷ l) k = ap (λ t. suc b ∷ t) (zeros_after l k)

module _ (s : List ℕ) where
  abbrev field : List ℕ
  field = take 10 (drop 30 s) ++ replicate 10 0

  wide : Begun newer (widened s) (field ++ drop 40 s)
  unfolding widened magic_of
  wide = rw append_assoc (begun newer (take 10 (drop 30 s) ++ (replicate 10 0 ++ drop 40 s)))

  field_length : length field ≡ length (take 10 (drop 30 s)) + 10
  field_length = rw (length-append, length-replicate)

  wide_length : length (widened s) ≡ 30 + (length (take 10 (drop 30 s)) + 10 + length (drop 40 s))
  wide_length = wide.long ∙ rw (length-append field (drop 40 s), field_length)

  widened_length : 40 ≤ length s → length (widened s) ≡ 10 + length s
  widened_length h = omega (arith, wide_length, length-take 10 (drop 30 s), length-drop 30 s, length-drop 40 s)

  module _ (q : edition s ≡ given older) where
    -- the same name and the same bytes after it, or the same refusal
    pub header_widened : header (widened s) ≡ header s
    unfolding model_if
    header_widened =
        header_of (widened s) newer wide.of_edition ∙ go (leb 40 (length s)) refl ∙ sym (header_of s older q)
      where
        go : (b : Bool) → leb 40 (length s) ≡ b → model_if (leb 50 (length (widened s))) 20 (widened s) ≡ model_if b 10 s
        go true e =
            let h = leb-true 40 (length s) e in
            let n : length field ≡ 20 = field_length ∙ omega (arith, length-take 10 (drop 30 s), length-drop 30 s) in
            rw (
              le-leb 50 (length (widened s)) (omega (arith, widened_length h)),
              wide.after,
              take_at field (drop 40 s) 20 n,
              zeros_after (take 10 (drop 30 s)) 10,
              ← drop-drop 20 30 (widened s),
              wide.after,
              drop_at field (drop 40 s) 20 n,
            )
        go false e =
            let h = leb-false 40 (length s) e in
            rw (lt-leb 50 (length (widened s)) (omega (arith, wide_length, length-take 10 (drop 30 s), length-drop 30 s, length-drop 40 s)))

    -- the same take, or the same refusal
    pub file_widened : (m : Manner) → read_file m (widened s) ≡ read_file m s
    unfolding read_file
    file_widened m = rw header_widened

    pub take_widened : (m : Manner) → read_take m (widened s) ≡ read_take m s
    unfolding read_take
    take_widened m = rw (file_widened m)

    pub model_widened : model_of (widened s) ≡ model_of s
    unfolding model_of
    model_widened = rw header_widened

    -- a file that is read has its whole header
    read_long : (m : Manner) (f : File) (r : List ℕ) → read_file m s ≡ got f r → 40 ≤ length s
    unfolding read_file bind model_if
    read_long m f r e = go (leb 40 (length s)) refl (rw (header_of s older q) at e)
      where
        go : (b : Bool) → leb 40 (length s) ≡ b → bind (model_if b 10 s) (sections m) ≡ got f r → 40 ≤ length s
        go true h g = leb-true 40 (length s) h
        go false h g = let z : ◌≡◌ {A = ℕ} 0 1 = cc in absurd (omega arith)

-- ---- places: those of the older file are 10 less

abbrev pub extent_later : Extent → Extent
extent_later x = record { count = x.count; place = 10 + x.place }

-- the same counts and IK states, and each place 10 more
abbrev pub scan_later : Scan → Scan
scan_later x = record {
  bones = extent_later x.bones;
  morphs = extent_later x.morphs;
  cameras = extent_later x.cameras;
  lights = extent_later x.lights;
  self_shadows = extent_later x.self_shadows;
  properties = extent_later x.properties;
  ik_states = x.ik_states;
}

-- the same with the frames, which stay
abbrev pub opening_later : Opening → Opening
opening_later o = record { scan = scan_later o.scan; smallest_frame = o.smallest_frame; largest_frame = o.largest_frame }

-- ten more bytes before a section
section_later : {A : Type 0} (s w : List ℕ) (x : Section A) → length w ≡ 10 + length s → length x.start ≤ length s
    → extent_of w x ≡ extent_later (extent_of s x)
unfolding extent_of
section_later s w x e h =
    let p : length w - length x.start ≡ 10 + (length s - length x.start) = omega (arith, e) in
    λ i. record { count = length x.items; place = p i }

scan_shifts : (s w : List ℕ) (f : File) (x : Scan) → length w ≡ 10 + length s → Agrees s f x → scan_of w f ≡ scan_later (scan_of s f)
unfolding scan_of file_in section_in
scan_shifts s w f x e a = λ i. record {
  bones = section_later s w f.bones e (short (λ g. g.bones.start) x.bones.place refl) i;
  morphs = section_later s w f.morphs e (short (λ g. g.morphs.start) x.morphs.place refl) i;
  cameras = section_later s w f.cameras e (short (λ g. g.cameras.start) x.cameras.place refl) i;
  lights = section_later s w f.lights e (short (λ g. g.lights.start) x.lights.place refl) i;
  self_shadows = section_later s w f.self_shadows e (short (λ g. g.self_shadows.start) x.self_shadows.place refl) i;
  properties = section_later s w f.properties e (short (λ g. g.properties.start) x.properties.place refl) i;
  ik_states = (scan_of s f).ik_states;
}
  where
    short : (start : File → List ℕ) (n : ℕ) → start (file_in f.model s x) ≡ drop n s → length (start f) ≤ length s
    short start n q = rw (ap start a.file, q) (omega (arith, length-drop n s))

positions_later : (p : ℕ) (l : List Property) → positions (10 + p) l ≡ map (λ n. 10 + n) (positions p l)
unfolding positions
positions_later p [] = refl
positions_later p (f ∷ l) =
    let e : 10 + p + 9 + 21 * length f.ik_states ≡ 10 + (p + 9 + 21 * length f.ik_states) = omega arith in
    ap (λ r. (10 + p) ∷ r) (rw e (positions_later (p + 9 + 21 * length f.ik_states) l))

drop_map : (f : ℕ → ℕ) (n : ℕ) (l : List ℕ) → drop n (map f l) ≡ map f (drop n l)
drop_map f zero l = refl
drop_map f (suc n) [] = refl
drop_map f (suc n) (a ∷ l) = drop_map f n l

-- every sixteenth of a mapped list, where the list has them
sixteenths_map : (f : ℕ → ℕ) (n : ℕ) (l : List ℕ) → 16 * n < length l + 16 → sixteenths n (map f l) ≡ map f (sixteenths n l)
unfolding sixteenths
sixteenths_map f zero l h = refl
sixteenths_map f (suc n) [] h = absurd (omega arith)
sixteenths_map f (suc n) (a ∷ l) h =
    rw (drop_map f 15 l) (ap (λ r. f a ∷ r) (sixteenths_map f n (drop 15 l) (omega (arith, length-drop 15 l))))

sixteenth_later : (p : ℕ) (l : List Property) → sixteenth_positions (10 + p) l ≡ map (λ n. 10 + n) (sixteenth_positions p l)
unfolding sixteenth_positions places_needed
sixteenth_later p l =
    rw (positions_later p l) (sixteenths_map (λ n. 10 + n) (places_needed (length l)) (positions p l) (omega (arith, positions_length p l)))

module _ (m : Manner) (s : List ℕ) (q : edition s ≡ given older) where
  -- opening: the same refusal, or the same counts, IK states and frames, and places that are 10 more
  pub open_widened : (places : ℕ) → open_file m (widened s) places ≡ map_answer opening_later (open_file m s places)
  unfolding open_file opened opening_of map_answer unless
  open_widened places = rw (file_widened s q m) (go (read_file m s) (scan_file m s) refl (file_agrees m s))
    where
      given_later : (f : File) (b : Bool) → scan_of (widened s) f ≡ scan_later (scan_of s f)
          → unless b scratch_too_short (given (opening_of (widened s) f)) ≡ map_answer opening_later (unless b scratch_too_short (given (opening_of s f)))
      given_later f true e = λ i. given (record { scan = e i; smallest_frame = (opening_of s f).smallest_frame; largest_frame = (opening_of s f).largest_frame })
      given_later f false e = refl

      go : (x : Step File) (y : Answer Scan) → read_file m s ≡ x → Matches s (model_of s) x y
          → opened (widened s) places x ≡ map_answer opening_later (opened s places x)
      go (refused k) y e a = refl
      go (got f r) (declined k) e a = absurd a
      go (got f r) (given x) e a =
          given_later f (leb (places_needed (length f.properties.items)) places) (scan_shifts s (widened s) f x (widened_length s (read_long s q m f r e)) a.1)

  -- the scratch: each position that opening writes is 10 more
  pub scratch_widened : (scratch : List ℕ) (o : Opening) → open_file m s (length scratch) ≡ given o
      → scratch_after m (widened s) scratch
      ≡ map (λ n. 10 + n) (take (places_needed o.scan.properties.count) (scratch_after m s scratch))
      ++ drop (places_needed o.scan.properties.count) scratch
  unfolding open_file opened unless opening_of scan_of extent_of scratch_after scratch_of scratch_if
  scratch_widened scratch o h = rw (file_widened s q m) (go (read_file m s) (scan_file m s) refl (file_agrees m s) h)
    where
      n : ℕ
      n = places_needed o.scan.properties.count

      two : (f : File) (p w : ℕ) (b : Bool) → w ≡ 10 + p
          → unless b scratch_too_short (given (opening_of s f)) ≡ given o
          → scratch_if b (sixteenth_positions w f.properties.items) scratch
          ≡ map (λ n. 10 + n) (take n (scratch_if b (sixteenth_positions p f.properties.items) scratch)) ++ drop n scratch
      two f p w true e g =
          let r : opening_of s f ≡ o = cc in
          let c : places_needed (length f.properties.items) ≡ n = ap (λ x. places_needed x.scan.properties.count) r in
          let l = sixteenth_length p f.properties.items ∙ c in
          let k = sixteenth_length (10 + p) f.properties.items ∙ c in
          rw (e, k, take_at (sixteenth_positions p f.properties.items) _ n l, sixteenth_later p f.properties.items)
      two f p w false e g = let z : ◌≡◌ {A = ℕ} 0 1 = cc in absurd (omega arith)

      go : (x : Step File) (y : Answer Scan) → read_file m s ≡ x → Matches s (model_of s) x y → opened s (length scratch) x ≡ given o
          → scratch_of (widened s) scratch x ≡ map (λ n. 10 + n) (take n (scratch_of s scratch x)) ++ drop n scratch
      go (refused k) y e a g = let z : ◌≡◌ {A = ℕ} 0 1 = cc in absurd (omega arith)
      go (got f r) (declined k) e a g = absurd a
      go (got f r) (given x) e a g =
          let w = scan_shifts s (widened s) f x (widened_length s (read_long s q m f r e)) a.1 in
          two f _ _ (leb (places_needed (length f.properties.items)) (length scratch)) (ap (λ y. y.properties.place) w) g
