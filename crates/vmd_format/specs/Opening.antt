-- What opening a file gives: document 01, "Opening", and 02 c) and f). Definitions only.
use Rattle.std.specs.Prelude.{ℕ, zero, suc, ◌+◌, ◌*◌, ◌-◌, ◌/◌, min, max, Bool, true, false, List, [], ◌∷◌, ◌++◌, map, length, get_or, drop, leb}
use Rattle.vmd_format.specs.Refusal.{scratch_too_short}
use Rattle.vmd_format.specs.Answer.{Answer, declined, given, unless}
use Rattle.vmd_format.specs.Records.{Property}
use Rattle.vmd_format.specs.Read.{Step, refused, got, Section, Manner}
use Rattle.vmd_format.specs.Take.{Take, File, take_of, read_file}

-- "k IK states over all of them"
unfoldable pub ik_total : List Property → ℕ
ik_total [] = 0
ik_total (p ∷ l) = length p.ik_states + ik_total l

-- the frames of a take's records, section after section
unfoldable pub take_frames : Take → List ℕ
take_frames t =
    map (λ b. b.frame) t.bones
    ++ (map (λ m. m.frame) t.morphs
    ++ (map (λ c. c.frame) t.cameras
    ++ (map (λ l. l.frame) t.lights
    ++ (map (λ s. s.frame) t.self_shadows
    ++ map (λ p. p.frame) t.properties))))

-- the smallest of a number and of those of a list
unfoldable pub least : ℕ → List ℕ → ℕ
least n [] = n
least n (k ∷ l) = least (min n k) l

-- the smallest and the largest of some numbers, 0 with none
unfoldable pub smallest : List ℕ → ℕ
smallest [] = 0
smallest (n ∷ l) = least n l

unfoldable pub largest : List ℕ → ℕ
largest [] = 0
largest (n ∷ l) = max n (largest l)

-- 02 c: "the smallest frame over all six sections, 0 with no records"
unfoldable pub smallest_frame : Take → ℕ
smallest_frame t = smallest (take_frames t)

-- "The largest frame is over all six sections, 0 with no records."
unfoldable pub largest_frame : Take → ℕ
largest_frame t = largest (take_frames t)

-- "the byte position of each property frame": a frame is 9 bytes and 21 for each of its IK states
unfoldable pub positions : ℕ → List Property → List ℕ
positions at [] = []
positions at (p ∷ l) = at ∷ positions (at + 9 + 21 * length p.ik_states) l

-- 02 f): "a sixteenth of the frames, rounded up"
unfoldable pub places_needed : ℕ → ℕ
places_needed n = (n + 15) / 16

-- every sixteenth of a list from its first on, n of them
unfoldable pub sixteenths : ℕ → List ℕ → List ℕ
sixteenths zero l = []
sixteenths (suc n) l = get_or l 0 0 ∷ sixteenths n (drop 16 l)

-- 02 f): "Place j now holds the position of property frame 16j only"
unfoldable pub sixteenth_positions : ℕ → List Property → List ℕ
sixteenth_positions at l = sixteenths (places_needed (length l)) (positions at l)

-- how many records a section has, and its place (document 01's term)
pub record Extent : Type 0 where
  pub count : ℕ
  pub place : ℕ

-- "six counts, the number of IK states .. and section places"
pub record Scan : Type 0 where
  pub bones : Extent
  pub morphs : Extent
  pub cameras : Extent
  pub lights : Extent
  pub self_shadows : Extent
  pub properties : Extent
  pub ik_states : ℕ

-- how many records the six sections have
unfoldable pub record_count : Scan → ℕ
record_count x = x.bones.count + x.morphs.count + x.cameras.count + x.lights.count + x.self_shadows.count + x.properties.count

-- an opening (document 01's term)
pub record Opening : Type 0 where
  pub scan : Scan
  pub smallest_frame : ℕ
  pub largest_frame : ℕ

-- "A section's place is just after its count, or the file's length where the count is missing or the section was emptied."
unfoldable pub extent_of : {A : Type 0} → List ℕ → Section A → Extent
extent_of s x = record { count = length x.items; place = length s - length x.start }

unfoldable pub scan_of : List ℕ → File → Scan
scan_of s f = record {
  bones = extent_of s f.bones;
  morphs = extent_of s f.morphs;
  cameras = extent_of s f.cameras;
  lights = extent_of s f.lights;
  self_shadows = extent_of s f.self_shadows;
  properties = extent_of s f.properties;
  ik_states = ik_total f.properties.items;
}

unfoldable pub opening_of : List ℕ → File → Opening
opening_of s f = record { scan = scan_of s f; smallest_frame = smallest_frame (take_of f); largest_frame = largest_frame (take_of f) }

-- 02 c: "Joining gives the smaller of two, a take without records not counting." Of two takes with so many records, and these
-- smallest frames.
unfoldable pub smaller_of : ℕ → ℕ → ℕ → ℕ → ℕ
smaller_of zero m j k = k
smaller_of (suc n) zero j k = j
smaller_of (suc n) (suc m) j k = min j k

unfoldable pub joined_smallest : Opening → Opening → ℕ
joined_smallest a b = smaller_of (record_count a.scan) (record_count b.scan) a.smallest_frame b.smallest_frame

-- 02 f): "Refusal 3 is given when the scratch has fewer than a sixteenth of the frames, rounded up"; "Opening: 1 and 2 as met,
-- then 3."
unfoldable pub opened : List ℕ → ℕ → Step File → Answer Opening
opened s places (refused k) = declined k
opened s places (got f r) = unless (leb (places_needed (length f.properties.items)) places) scratch_too_short (given (opening_of s f))

unfoldable pub open_file : Manner → List ℕ → ℕ → Answer Opening
open_file m s places = opened s places (read_file m s)

-- "A lent scratch of 64-bit numbers receives the byte position of each property frame, first places first; further places
-- keep their contents", since 02 f) of each sixteenth; a refusal leaves all of it.
unfoldable pub scratch_if : Bool → List ℕ → List ℕ → List ℕ
scratch_if true p scratch = p ++ drop (length p) scratch
scratch_if false p scratch = scratch

unfoldable pub scratch_of : List ℕ → List ℕ → Step File → List ℕ
scratch_of s scratch (refused k) = scratch
scratch_of s scratch (got f r) =
    scratch_if (leb (places_needed (length f.properties.items)) (length scratch))
    (sixteenth_positions (extent_of s f.properties).place f.properties.items) scratch

unfoldable pub scratch_after : Manner → List ℕ → List ℕ → List ℕ
scratch_after m s scratch = scratch_of s scratch (read_file m s)
