-- A whole file read by places: the same refusals as reading it from the front, and the file of these places.
use Rattle.std.specs.Prelude.{ℕ, zero, suc, ◌+◌, ◌*◌, ◌-◌, ◌≤◌, ◌<◌, ◌≡◌, Bool, take}
use Rattle.std.proofs.Math.Path.{refl, ap}
use Rattle.std.proofs.Common.{subst, arith}
use Rattle.std.proofs.Math.Bool.{true, false}
use mathlib.Core.List.{List, [], ◌∷◌}
use borrow.Author.Tests.{le-leb, lt-leb, leb-true, leb-false}
use Rattle.std.proofs.Math.ListN.{length, drop, length-drop}
use Rattle.std.proofs.Math.Seq.{drop-length}
use Rattle.std.proofs.Math.Dec.{leb}
use Rattle.vmd_format.specs.Bytes.{before_zero}
use Rattle.vmd_format.specs.Layout.{Layout, number, byte, flag, inverted, name, raw, ◌⊗◌, as_record}
use Rattle.vmd_format.specs.Refusal.{Refusal, file_ends_early, magic_differs}
use Rattle.vmd_format.specs.Refusal as refusal
use Rattle.vmd_format.specs.Answer.{Answer, declined, given, and_then, unless}
use Rattle.vmd_format.specs.Records.{Property, bone, morph, camera, light, self_shadow}
use Rattle.vmd_format.specs.Read.{Step, refused, got, Reader, bind, fixed, many, Section, refuse, BytesOver, ignored, turned_down, Manner}
use Rattle.vmd_format.specs.Take.{property, File, Edition, newer, older, magic, older_magic, model_width, same, edition_if, edition, model_if, magic_if, header_if, header, sections, ended, read_file}
use Rattle.vmd_format.specs.Opening.{ik_total, Extent, Scan, extent_of, scan_of}
use Rattle.vmd_format.specs.Fetch.{model_in, model_of, next_frame}
use Rattle.vmd_laws.specs.Places.{place_after, header_place, place_past, HeaderPlaces, header_places, Span, extent_in, span, optional_span, Walk, walk, over_if, scan_sections, scan_file}
use Rattle.vmd_laws.specs.PlacesLaws.{Holds, table_length, Within, span_within, optional_within, section_by, counted_by, optional_by, section_in, fixed_by, frames_in, Walked, WalkAgrees, walk_agrees}

-- the file of these places
unfoldable pub file_in : List ℕ → List ℕ → Scan → File
file_in model s x = record {
  model = model;
  bones = section_in bone s x.bones;
  morphs = section_in morph s x.morphs;
  cameras = section_in camera s x.cameras;
  lights = section_in light s x.lights;
  self_shadows = section_in self_shadow s x.self_shadows;
  properties = record {
    start = drop x.properties.place s;
    items = frames_in s x.properties.count x.properties.place;
  };
}

-- the records of a section lie in the file
pub record ExtentWithin (size : ℕ) (s : List ℕ) (p : Extent) : Type 0 where
  pub place : p.place ≤ length s
  pub ends : p.place + p.count * size ≤ length s

-- so do those of every section, and the walk over the property frames goes through
pub record Inside (s : List ℕ) (x : Scan) : Type 0 where
  pub bones : ExtentWithin 111 s x.bones
  pub morphs : ExtentWithin 23 s x.morphs
  pub cameras : ExtentWithin 61 s x.cameras
  pub lights : ExtentWithin 28 s x.lights
  pub self_shadows : ExtentWithin 9 s x.self_shadows
  pub properties : ExtentWithin 9 s x.properties
  pub next : ℕ
  pub walked : walk s x.properties.count x.properties.place 0 ≡ given (record { next = next; ik_states = x.ik_states })

pub record Agrees (s : List ℕ) (f : File) (x : Scan) : Type 0 where
  pub file : f ≡ file_in f.model s x
  pub scan : scan_of s f ≡ x
  pub inside : Inside s x

abbrev pub Matches : List ℕ → List ℕ → Step File → Answer Scan → Type 0
Matches s model (refused k) (declined j) = k ≡ j
Matches s model (refused k) (given x) = ⊥
Matches s model (got f r) (declined j) = ⊥
Matches s model (got f r) (given x) = (f.model ≡ model) × Agrees s f x

within_extent : (size : ℕ) (s : List ℕ) (x : Span) → Within size s x → ExtentWithin size s (extent_in x)
unfolding extent_in
within_extent size s x w = record { place = w.place; ends = omega (arith, w.next, w.ends) }

-- an extent is found again from its section
extent_found : {A : Type 0} (K : Layout A) (s : List ℕ) (p : Extent) → p.place ≤ length s → extent_of s (section_in K s p) ≡ p
unfolding extent_of section_in
extent_found K s p h =
    let e : length s - length (drop p.place s) ≡ p.place = rw length-drop (omega arith) in
    rw (table_length K p.count (drop p.place s), e)

pub frames_length : (s : List ℕ) (n at : ℕ) → length (frames_in s n at) ≡ n
unfolding frames_in
frames_length s zero at = refl
frames_length s (suc n) at = ap suc (frames_length s n (next_frame s at))

frames_found : (s : List ℕ) (p : Extent) (i : List Property) → p.place ≤ length s → i ≡ frames_in s p.count p.place
    → extent_of s (record { start = drop p.place s; items = i }) ≡ p
unfolding extent_of
frames_found s p i h q =
    let e : length s - length (drop p.place s) ≡ p.place = rw length-drop (omega arith) in
    rw (q, frames_length s p.count p.place, e)

module _ (m : Manner) (s model : List ℕ) where
  stage : {A : Type 0} (K : Layout A) (x : Answer Span) (F : Section A → Reader File) (G : Span → Answer Scan)
      → Holds (Within K.size s) x
      → ((y : Span) → Within K.size s y → Matches s model (F (section_in K s (extent_in y)) (drop y.next s)) (G y))
      → Matches s model (bind (section_by (fixed K) s x) F) (and_then x G)
  unfolding bind section_by and_then
  stage K (declined k) F G w h = refl
  stage K (given x) F G w h = rw (fixed_by K s x w) (h x w)

  ended_agrees : (o : BytesOver) (f : File) (x : Scan) (e : ℕ) → e ≤ length s → (f.model ≡ model) × Agrees s f x
      → Matches s model (ended o f (drop e s)) (over_if (leb (length s) e) o x)
  unfolding ended over_if
  ended_agrees ignored f x e h a = go (leb (length s) e)
    where
      go : (b : Bool) → Matches s model (got f (drop e s)) (over_if b ignored x)
      go true = a
      go false = a
  ended_agrees (turned_down k) f x e h a = go (leb (length s) e) refl
    where
      some : (t : List ℕ) → 0 < length t → Matches s model (ended (turned_down k) f t) (declined k)
      some [] l = absurd (omega arith)
      some (b ∷ t) l = refl

      go : (b : Bool) → leb (length s) e ≡ b → Matches s model (ended (turned_down k) f (drop e s)) (over_if b (turned_down k) x)
      go true q = let d : e ≡ length s = omega (arith, leb-true (length s) e q) in rw (d, drop-length s) a
      go false q = some (drop e s) (rw length-drop (omega (arith, leb-false (length s) e q)))

  last : (x : Answer Span) (F : Section Property → Reader File) (G : Span → Walk → Answer Scan)
      → Holds (Within 9 s) x
      → ((y : Span) (l : List Property) (t : List ℕ) (w : Walk) → Within 9 s y → Walked s y.count y.place 0 l t w
      → walk s y.count y.place 0 ≡ given w → Matches s model (F (record { start = drop y.place s; items = l }) t) (G y w))
      → Matches s model (bind (section_by property s x) F) (and_then x (λ p. and_then (walk s p.count p.place 0) (G p)))
  unfolding bind section_by and_then
  last (declined k) F G w h = refl
  last (given x) F G w h =
      go (many property.read x.count (drop x.place s)) (walk s x.count x.place 0) refl (walk_agrees s x.count x.place 0 w.place)
    where
      go : (y : Step (List Property)) (z : Answer Walk) → walk s x.count x.place 0 ≡ z → WalkAgrees s x.count x.place 0 y z
          → Matches s model (bind (bind y (λ l t. got (record { start = drop x.place s; items = l }) t)) F) (and_then z (G x))
      go (refused k) (declined j) e a = a
      go (refused k) (given v) e a = absurd a
      go (got l t) (declined j) e a = absurd a
      go (got l t) (given v) e a = h x l t v w a e

  -- the file and the scan that six spans and a walk make
  file_found : (b f c l d p : Span) (i : List Property) (t : List ℕ) (w : Walk)
      → Within 111 s b → Within 23 s f → Within 61 s c → Within 28 s l → Within 9 s d → Within 9 s p
      → Walked s p.count p.place 0 i t w → walk s p.count p.place 0 ≡ given w
      → Agrees s
      (record {
        model = model;
        bones = section_in bone s (extent_in b);
        morphs = section_in morph s (extent_in f);
        cameras = section_in camera s (extent_in c);
        lights = section_in light s (extent_in l);
        self_shadows = section_in self_shadow s (extent_in d);
        properties = record { start = drop p.place s; items = i };
      })
      (record {
        bones = extent_in b;
        morphs = extent_in f;
        cameras = extent_in c;
        lights = extent_in l;
        self_shadows = extent_in d;
        properties = extent_in p;
        ik_states = w.ik_states;
      })
  unfolding file_in scan_of extent_in
  file_found b f c l d p i t w wb wf wc wl wd wp a e = let k : ik_total i ≡ w.ik_states = omega (arith, a.ik_states) in record {
    file = rw a.frames;
    scan = λ j. record {
      bones = extent_found bone s (extent_in b) wb.place j;
      morphs = extent_found morph s (extent_in f) wf.place j;
      cameras = extent_found camera s (extent_in c) wc.place j;
      lights = extent_found light s (extent_in l) wl.place j;
      self_shadows = extent_found self_shadow s (extent_in d) wd.place j;
      properties = frames_found s (extent_in p) i wp.place a.frames j;
      ik_states = k j;
    };
    inside = record {
      bones = within_extent 111 s b wb;
      morphs = within_extent 23 s f wf;
      cameras = within_extent 61 s c wc;
      lights = within_extent 28 s l wl;
      self_shadows = within_extent 9 s d wd;
      properties = within_extent 9 s p wp;
      next = w.next;
      walked = e;
    };
  }

  pub sections_agree : (at : ℕ) → at ≤ length s → Matches s model (sections m model (drop at s)) (scan_sections m s at)
  unfolding sections scan_sections bone morph camera light self_shadow property number byte flag inverted name raw ◌⊗◌ as_record fixed
  sections_agree at h =
      rw (counted_by (fixed bone) (refuse file_ends_early) s at h) (stage bone (span (refuse file_ends_early) 111 s at) _ _ (span_within (refuse file_ends_early) 111 s at) λ b wb.
      rw (optional_by (fixed morph) (refuse file_ends_early) s b.next wb.ends) (stage morph (optional_span (refuse file_ends_early) 23 s b.next) _ _ (optional_within (refuse file_ends_early) 23 s b.next) λ f wf.
      rw (optional_by (fixed camera) m.oversized s f.next wf.ends) (stage camera (optional_span m.oversized 61 s f.next) _ _ (optional_within m.oversized 61 s f.next) λ c wc.
      rw (optional_by (fixed light) m.oversized s c.next wc.ends) (stage light (optional_span m.oversized 28 s c.next) _ _ (optional_within m.oversized 28 s c.next) λ l wl.
      rw (optional_by (fixed self_shadow) m.oversized s l.next wl.ends) (stage self_shadow (optional_span m.oversized 9 s l.next) _ _ (optional_within m.oversized 9 s l.next) λ d wd.
      rw (optional_by property (refuse file_ends_early) s d.next wd.ends) (last (optional_span (refuse file_ends_early) 9 s d.next) _ _ (optional_within (refuse file_ends_early) 9 s d.next) λ p i t w wp a e.
      rw a.rest (ended_agrees m.over _ _ w.next a.ends (refl, file_found b f c l d p i t w wb wf wc wl wd wp a e))))))))

-- The one fact of a header: it is refused with 1 or 2, or the sections begin at a place of the file, and the model name's field
-- stands before them, after the magic.
pub data HeaderIs (s : List ℕ) : Step (List ℕ) → Type 0 where
  halts : (k : Refusal) → refusal.number k ≤ 2 → HeaderIs s (refused k)
  reads : (at : ℕ) → 30 ≤ at → at ≤ length s → HeaderIs s (got (before_zero (take (at - 30) (drop 30 s))) (drop at s))

pub header_is : (s : List ℕ) → HeaderIs s (header s)
unfolding header header_if magic_if model_if edition edition_if
header_is s = one (leb 30 (length s))
  where
    three : (width : ℕ) (b : Bool) → leb (30 + width) (length s) ≡ b → HeaderIs s (model_if b width s)
    three width true e =
        let w : (30 + width) - 30 ≡ width = omega arith in
        subst (λ n. HeaderIs s (got (before_zero (take n (drop 30 s))) (drop (30 + width) s))) w (reads (30 + width) (omega arith) (leb-true _ _ e))
    three width false e = halts file_ends_early (omega arith)

    two : (x y : Bool) → HeaderIs s (magic_if (edition_if x y) s)
    two true y = three 20 (leb 50 (length s)) refl
    two false true = three 10 (leb 40 (length s)) refl
    two false false = halts magic_differs (omega arith)

    one : (b : Bool) → HeaderIs s (header_if b s)
    one true = two (same (take 26 s) magic) (same (take 26 s) older_magic)
    one false = halts file_ends_early (omega arith)

-- where the header says that the name stands, it stands, and the sections begin in the file
pub record Headed (s : List ℕ) (h : HeaderPlaces) : Type 0 where
  pub named : before_zero (take h.width (drop h.name s)) ≡ model_of s
  pub name_ends : h.name + h.width ≤ length s
  pub starts : h.sections ≤ length s

pub headed : (s : List ℕ) (at : ℕ) → header_place s ≡ given at → Headed s (header_places at)
unfolding header_place place_after model_of model_in
headed s at e =
    let g = go (header s) (header_is s) e in
    record { named = g.0; name_ends = g.1; starts = g.2 }
  where
    go : (x : Step (List ℕ)) → HeaderIs s x → place_after s x ≡ given at
        → (before_zero (take (at - 30) (drop 30 s)) ≡ model_in x) × (30 + (at - 30) ≤ length s) × (at ≤ length s)
    go x (halts k h) e = let z : ◌≡◌ {A = ℕ} 0 1 = cc in absurd (omega arith)
    go x (reads p g h) e =
        let z : length s - length (drop p s) ≡ at = cc in
        let q : p ≡ at = omega (arith, length-drop p s) in
        (rw q refl, omega arith, omega arith)

-- no header, no name
pub no_model : (s : List ℕ) (k : Refusal) → header_place s ≡ declined k → model_of s ≡ []
unfolding header_place place_after model_of model_in
no_model s k e = go (header s) e
  where
    go : (x : Step (List ℕ)) → place_after s x ≡ declined k → model_in x ≡ []
    go (refused j) e = refl
    go (got n r) e = let z : ◌≡◌ {A = ℕ} 0 1 = cc in absurd (omega arith)

-- a file read by places is the file read
pub file_agrees : (m : Manner) (s : List ℕ) → Matches s (model_of s) (read_file m s) (scan_file m s)
unfolding read_file scan_file header_place place_after bind and_then model_of model_in
file_agrees m s = go (header s) (header_is s)
  where
    go : (x : Step (List ℕ)) → HeaderIs s x → Matches s (model_in x) (bind x (sections m)) (and_then (place_after s x) (scan_sections m s))
    go x (halts k h) = refl
    go x (reads at g h) =
        let e : length s - length (drop at s) ≡ at = rw length-drop (omega arith) in
        rw e (sections_agree m s _ at h)

-- the cases of a header, for code
module _ (s : List ℕ) where
  pub header_short : length s < 30 → header_place s ≡ declined file_ends_early
  unfolding header_place place_after header header_if
  header_short h = rw (lt-leb 30 (length s) h)

  -- which edition, by the two comparisons
  pub edition_newer : same (take 26 s) magic ≡ true → edition s ≡ given newer
  unfolding edition edition_if
  edition_newer e = rw e

  pub edition_older : same (take 26 s) magic ≡ false → same (take 26 s) older_magic ≡ true → edition s ≡ given older
  unfolding edition edition_if
  edition_older e f = rw (e, f)

  pub edition_other : same (take 26 s) magic ≡ false → same (take 26 s) older_magic ≡ false → edition s ≡ declined magic_differs
  unfolding edition edition_if
  edition_other e f = rw (e, f)

  pub header_other : (k : Refusal) → 30 ≤ length s → edition s ≡ declined k → header_place s ≡ declined k
  unfolding header_place place_after header header_if magic_if
  header_other k h e = rw (le-leb 30 (length s) h, e)

  -- a header of a known edition is refused for its length alone
  module _ (v : Edition) (e : edition s ≡ given v) where
    pub header_of : header s ≡ model_if (leb (30 + model_width v) (length s)) (model_width v) s
    unfolding header header_if magic_if model_if
    header_of = go (leb 30 (length s)) refl
      where
        go : (b : Bool) → leb 30 (length s) ≡ b → header_if b s ≡ model_if (leb (30 + model_width v) (length s)) (model_width v) s
        go true q = rw e
        go false q = rw (lt-leb (30 + model_width v) (length s) (omega (arith, leb-false 30 (length s) q)))

    pub header_known : header_place s ≡ place_past (model_width v) s
    unfolding header_place place_after model_if place_past unless
    header_known = rw header_of (go (leb (30 + model_width v) (length s)) refl)
      where
        go : (b : Bool) → leb (30 + model_width v) (length s) ≡ b
            → place_after s (model_if b (model_width v) s) ≡ unless b file_ends_early (given (30 + model_width v))
        go true q = ap given (rw length-drop (omega (arith, leb-true (30 + model_width v) (length s) q)))
        go false q = refl

  pub past_short : (width : ℕ) → length s < 30 + width → place_past width s ≡ declined file_ends_early
  unfolding place_past unless
  past_short width l = rw (lt-leb (30 + width) (length s) l)

  pub past_whole : (width : ℕ) → 30 + width ≤ length s → place_past width s ≡ given (30 + width)
  unfolding place_past unless
  past_whole width l = rw (le-leb (30 + width) (length s) l)
