-- Records by section and number: document 01, "Opening" and "records", and 02 f). Definitions only.
-- "A fetch with an opening or scratch taken from another file gives the record that the layout reads at the place these
-- name, or refusal 4; a scratch too short for the number, or a place whose sum would wrap, counts as outside the file."
use Rattle.std.specs.Prelude.{ℕ, zero, suc, ◌+◌, ◌*◌, ◌/◌, ◌%◌, Bool, ◌&&◌, List, [], length, get_or, drop, leb, ltb}
use Rattle.vmd_format.specs.Bytes.{u32}
use Rattle.vmd_format.specs.Layout.{Layout}
use Rattle.vmd_format.specs.Refusal.{outside}
use Rattle.vmd_format.specs.Answer.{Answer, declined, given, and_then, map_answer, unless}
use Rattle.vmd_format.specs.Records.{IkState, property_head, ik_state}
use Rattle.vmd_format.specs.Read.{Step, refused, got}
use Rattle.vmd_format.specs.Take.{header}
use Rattle.vmd_format.specs.Opening.{Extent}

-- where record i of a section of records of so many bytes stands, all of it in the file
unfoldable pub record_place : ℕ → Extent → ℕ → List ℕ → Answer ℕ
record_place size p i s =
    unless (ltb i p.count && leb (p.place + i * size + size) (length s)) outside (given (p.place + i * size))

-- the record that a layout reads there
unfoldable pub fetch : {A : Type 0} → Layout A → Extent → ℕ → List ℕ → Answer A
fetch K p i s = map_answer (λ at. K.decode (drop at s)) (record_place K.size p i s)

-- "in place of refusal 4, or for a model name whose header is refused, that part is empty"
unfoldable pub or_empty : Answer (List ℕ) → List ℕ
or_empty (declined k) = []
or_empty (given s) = s

-- the model name of a file
unfoldable pub model_in : Step (List ℕ) → List ℕ
model_in (refused k) = []
model_in (got n r) = n

unfoldable pub model_of : List ℕ → List ℕ
model_of s = model_in (header s)

-- a property frame without its IK states
pub record PropertyHead : Type 0 where
  pub frame : ℕ
  pub visible : Bool
  pub ik_count : ℕ

-- where the property frame at a place ends, with its IK states, and the next one stands
unfoldable pub next_frame : List ℕ → ℕ → ℕ
next_frame s at = at + 9 + u32 (drop (at + 5) s) * 21

-- the same where all of it is in the file
unfoldable pub next_place : List ℕ → ℕ → Answer ℕ
next_place s at = unless (leb (next_frame s at) (length s)) outside (given (next_frame s at))

-- 02 f): "a fetch walks on from there", over n frames; "a walk that leaves the file is 4"
unfoldable pub walk_frames : List ℕ → ℕ → ℕ → Answer ℕ
walk_frames s zero at = given at
walk_frames s (suc n) at = and_then (next_place s at) (walk_frames s n)

-- a property frame at a place: its nine bytes are in the file
unfoldable pub frame_place : List ℕ → ℕ → Answer ℕ
frame_place s at = unless (leb (at + 9) (length s)) outside (given at)

-- where property frame i stands: place i / 16 of the scratch is that of frame 16 (i / 16), and a walk leads on from it to frame
-- i, "over at most 15 frames"
unfoldable pub property_place : Extent → List ℕ → ℕ → List ℕ → Answer ℕ
property_place p scratch i s =
    unless (ltb i p.count && ltb (i / 16) (length scratch)) outside
    (and_then (walk_frames s (i % 16) (get_or scratch (i / 16) 0)) (frame_place s))

unfoldable pub property_at : List ℕ → ℕ → PropertyHead
property_at s at = record {
  frame = (property_head.decode (drop at s)).0;
  visible = (property_head.decode (drop at s)).1;
  ik_count = u32 (drop (at + 5) s);
}

unfoldable pub fetch_property : Extent → List ℕ → ℕ → List ℕ → Answer PropertyHead
fetch_property p scratch i s = map_answer (property_at s) (property_place p scratch i s)

-- a property frame, and the place of the next one
pub record PropertyStep : Type 0 where
  pub head : PropertyHead
  pub next : ℕ

-- the property frame at a place, all of it in the file, and the place of the next one
unfoldable pub step_property : ℕ → List ℕ → Answer PropertyStep
step_property at s = map_answer (λ next. record { head = property_at s at; next = next }) (next_place s at)

-- the IK states of the property frame at a place: the count read there, and the bytes after it
unfoldable pub ik_extent : List ℕ → ℕ → Extent
ik_extent s at = record { count = u32 (drop (at + 5) s); place = at + 9 }

-- IK state j of property frame i
unfoldable pub fetch_ik_state : Extent → List ℕ → ℕ → ℕ → List ℕ → Answer IkState
fetch_ik_state p scratch i j s = and_then (property_place p scratch i s) λ at. fetch ik_state (ik_extent s at) j s
