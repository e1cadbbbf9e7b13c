-- Reading a file by places, as code goes: a section's count, the place of its records and the place after them.
-- PlacesLaws shows that this is the reading of Take and Opening; nothing here has to be believed.
use Rattle.std.specs.Prelude.{ℕ, zero, suc, ◌+◌, ◌*◌, ◌-◌, ◌≤◌, Bool, true, false, List, [], ◌∷◌, ◌++◌, length, drop, leb}
use Rattle.vmd_format.specs.Bytes.{u32}
use Rattle.vmd_format.specs.Refusal.{file_ends_early, scratch_too_short}
use Rattle.vmd_format.specs.Answer.{Answer, declined, given, and_then, unless}
use Rattle.vmd_format.specs.Read.{Step, refused, got, Oversized, refuse, emptied, BytesOver, ignored, turned_down, Manner}
use Rattle.vmd_format.specs.Take.{header}
use Rattle.vmd_format.specs.Opening.{smallest, largest, places_needed, Extent, Scan, Opening, scratch_if}
use Rattle.vmd_format.specs.Fetch.{next_frame}

-- where the sections begin
unfoldable pub place_after : List ℕ → Step (List ℕ) → Answer ℕ
place_after s (refused k) = declined k
place_after s (got n r) = given (length s - length r)

unfoldable pub header_place : List ℕ → Answer ℕ
header_place s = place_after s (header s)

-- the same past a model name of so many bytes, where the file has them
unfoldable pub place_past : ℕ → List ℕ → Answer ℕ
place_past width s = unless (leb (30 + width) (length s)) file_ends_early (given (30 + width))

-- where the field of the model name stands, how wide it is, and where the sections begin
pub record HeaderPlaces : Type 0 where
  pub name : ℕ
  pub width : ℕ
  pub sections : ℕ

-- the name stands between the 30 bytes of the magic and the sections
abbrev pub header_places : ℕ → HeaderPlaces
header_places at = record { name = 30; width = at - 30; sections = at }

-- a section: its records' number, their place and the place after them
pub record Span : Type 0 where
  pub count : ℕ
  pub place : ℕ
  pub next : ℕ

unfoldable pub extent_in : Span → Extent
extent_in x = record { count = x.count; place = x.place }

unfoldable pub no_span : List ℕ → Span
no_span s = record { count = 0; place = length s; next = length s }

unfoldable pub over_span : Oversized → List ℕ → Answer Span
over_span (refuse k) s = declined k
over_span emptied s = given (no_span s)

unfoldable pub records_span : Bool → Oversized → ℕ → List ℕ → ℕ → Answer Span
records_span true o size s at = given (record { count = u32 (drop at s); place = at + 4; next = at + 4 + u32 (drop at s) * size })
records_span false o size s at = over_span o s

unfoldable pub count_span : Bool → Oversized → ℕ → List ℕ → ℕ → Answer Span
count_span true o size s at = records_span (leb (u32 (drop at s) * size) (length s - (at + 4))) o size s at
count_span false o size s at = declined file_ends_early

-- the section whose count is at a place
unfoldable pub span : Oversized → ℕ → List ℕ → ℕ → Answer Span
span o size s at = count_span (leb (at + 4) (length s)) o size s at

unfoldable pub optional_if : Bool → Oversized → ℕ → List ℕ → ℕ → Answer Span
optional_if true o size s at = given (no_span s)
optional_if false o size s at = span o size s at

-- the same where the file may end before the count
unfoldable pub optional_span : Oversized → ℕ → List ℕ → ℕ → Answer Span
optional_span o size s at = optional_if (leb (length s) at) o size s at

-- ---- property frames, one after another

-- where the last frame ends, and how many IK states all of them have
pub record Walk : Type 0 where
  pub next : ℕ
  pub ik_states : ℕ

-- over the frame at a place, and then on
unfoldable pub walk_on : Bool → Answer Span → (ℕ → ℕ → Answer Walk) → ℕ → Answer Walk
walk_on true (declined k) go total = declined k
walk_on true (given x) go total = go x.next (total + x.count)
walk_on false x go total = declined file_ends_early

unfoldable pub walk : List ℕ → ℕ → ℕ → ℕ → Answer Walk
walk s zero at total = given (record { next = at; ik_states = total })
walk s (suc n) at total =
    walk_on (leb (at + 5) (length s)) (span (refuse file_ends_early) 21 s (at + 5)) (walk s n) total

-- ---- the whole file

-- the bytes over
unfoldable pub over_if : {A : Type 0} → Bool → BytesOver → A → Answer A
over_if true o a = given a
over_if false ignored a = given a
over_if false (turned_down k) a = declined k

unfoldable pub scan_sections : Manner → List ℕ → ℕ → Answer Scan
scan_sections m s at =
    and_then (span (refuse file_ends_early) 111 s at) λ b.
    and_then (optional_span (refuse file_ends_early) 23 s b.next) λ f.
    and_then (optional_span m.oversized 61 s f.next) λ c.
    and_then (optional_span m.oversized 28 s c.next) λ l.
    and_then (optional_span m.oversized 9 s l.next) λ d.
    and_then (optional_span (refuse file_ends_early) 9 s d.next) λ p.
    and_then (walk s p.count p.place 0) λ w.
    over_if (leb (length s) w.next) m.over (record {
      bones = extent_in b;
      morphs = extent_in f;
      cameras = extent_in c;
      lights = extent_in l;
      self_shadows = extent_in d;
      properties = extent_in p;
      ik_states = w.ik_states;
    })

unfoldable pub scan_file : Manner → List ℕ → Answer Scan
scan_file m s = and_then (header_place s) (scan_sections m s)

-- ---- the frames, and the property frames' places

-- each of n frames from a place on lies in the file, with its IK states
unfoldable pub Reaches : List ℕ → ℕ → ℕ → Type 0
Reaches s zero at = Unit {0}
Reaches s (suc n) at = (next_frame s at ≤ length s) × Reaches s n (next_frame s at)

-- where n frames end
unfoldable pub frame_end : List ℕ → ℕ → ℕ → ℕ
frame_end s zero at = at
frame_end s (suc n) at = frame_end s n (next_frame s at)

-- n places, each 16 frames on from the one before
unfoldable pub sixteenth_places : List ℕ → ℕ → ℕ → List ℕ
sixteenth_places s zero at = []
sixteenth_places s (suc n) at = at ∷ sixteenth_places s n (frame_end s 16 at)

-- the frames of n records from a place on, each a number so many bytes into its record; `next` leads from a record's place to
-- the next
unfoldable pub frames_from : (ℕ → ℕ) → ℕ → List ℕ → ℕ → ℕ → List ℕ
frames_from next offset s zero at = []
frames_from next offset s (suc n) at = u32 (drop (at + offset) s) ∷ frames_from next offset s n (next at)

-- the frames of a section of records of one size, and of a whole file
abbrev pub extent_frames : ℕ → ℕ → List ℕ → Extent → List ℕ
extent_frames offset size s p = frames_from (λ at. at + size) offset s p.count p.place

abbrev pub property_frames : List ℕ → Extent → List ℕ
property_frames s p = frames_from (next_frame s) 0 s p.count p.place

unfoldable pub scan_frames : List ℕ → Scan → List ℕ
scan_frames s x =
    extent_frames 15 111 s x.bones
    ++ (extent_frames 15 23 s x.morphs
    ++ (extent_frames 0 61 s x.cameras
    ++ (extent_frames 0 28 s x.lights
    ++ (extent_frames 0 9 s x.self_shadows
    ++ property_frames s x.properties))))

-- opening, and the scratch after it
unfoldable pub opening_at : List ℕ → Scan → Opening
opening_at s x = record { scan = x; smallest_frame = smallest (scan_frames s x); largest_frame = largest (scan_frames s x) }

unfoldable pub open_scan : List ℕ → ℕ → Scan → Answer Opening
open_scan s places x = unless (leb (places_needed x.properties.count) places) scratch_too_short (given (opening_at s x))

unfoldable pub scan_scratch : List ℕ → List ℕ → Answer Scan → List ℕ
scan_scratch s scratch (declined k) = scratch
scan_scratch s scratch (given x) =
    scratch_if (leb (places_needed x.properties.count) (length scratch))
    (sixteenth_places s (places_needed x.properties.count) x.properties.place) scratch
