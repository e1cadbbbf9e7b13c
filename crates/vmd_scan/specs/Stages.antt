-- The steps in which a file is scanned: a number, a section's records, three sections, three more, and the end. proofs/Laws
-- shows that together they are the format's scan. Definitions only.
use Rattle.std.specs.Prelude.{ℕ, ◌+◌, ◌*◌, ◌-◌, Bool, true, false, List, length, drop, leb, Option, Some, None}
use Rattle.vmd_format.specs.Bytes.{u32}
use Rattle.vmd_format.specs.Refusal.{file_ends_early}
use Rattle.vmd_format.specs.Answer.{Answer, declined, given, and_then, map_answer}
use Rattle.vmd_format.specs.Read.{Oversized, refuse, BytesOver}
use Rattle.vmd_format.specs.Opening.{Extent, Scan}
use Rattle.vmd_laws.specs.Places.{Span, extent_in, over_span, optional_span, span, walk, over_if}

-- ---- numbers

-- a number, and the place after it
pub record Numbered : Type 0 where
  pub value : ℕ
  pub next : ℕ

unfoldable pub number_if : Bool → List ℕ → ℕ → Answer Numbered
number_if true s at = given (record { value = u32 (drop at s); next = at + 4 })
number_if false s at = declined file_ends_early

-- the number at a place
unfoldable pub read_number : List ℕ → ℕ → Answer Numbered
read_number s at = number_if (leb (at + 4) (length s)) s at

-- nothing left, or a number
unfoldable pub optional_number_if : Bool → List ℕ → ℕ → Answer (Option Numbered)
optional_number_if true s at = given None
optional_number_if false s at = map_answer Some (read_number s at)

-- the same where the file may have ended before the number
unfoldable pub optional_number : List ℕ → ℕ → Answer (Option Numbered)
optional_number s at = optional_number_if (leb (length s) at) s at

-- ---- a section's records, after their count

unfoldable pub counted_if : Bool → Oversized → ℕ → List ℕ → Numbered → Answer Span
counted_if true o size s x = given (record { count = x.value; place = x.next; next = x.next + x.value * size })
counted_if false o size s x = over_span o s

unfoldable pub counted_span : Oversized → ℕ → List ℕ → Numbered → Answer Span
counted_span o size s x = counted_if (leb (x.value * size) (length s - x.next)) o size s x

-- ---- three sections, three more, and the end

pub record Front : Type 0 where
  pub bones : Extent
  pub morphs : Extent
  pub cameras : Extent
  pub next : ℕ

pub record Back : Type 0 where
  pub lights : Extent
  pub self_shadows : Extent
  pub properties : Extent

unfoldable pub scan_front : Oversized → List ℕ → ℕ → Answer Front
scan_front o s at =
    and_then (span (refuse file_ends_early) 111 s at) λ b.
    and_then (optional_span (refuse file_ends_early) 23 s b.next) λ f.
    and_then (optional_span o 61 s f.next) λ c.
    given (record { bones = extent_in b; morphs = extent_in f; cameras = extent_in c; next = c.next })

unfoldable pub scan_back : Oversized → List ℕ → ℕ → Answer Back
scan_back o s at =
    and_then (optional_span o 28 s at) λ l.
    and_then (optional_span o 9 s l.next) λ d.
    and_then (optional_span (refuse file_ends_early) 9 s d.next) λ p.
    given (record { lights = extent_in l; self_shadows = extent_in d; properties = extent_in p })

abbrev pub scan_joined : Front → Back → ℕ → Scan
scan_joined f b n = record {
  bones = f.bones;
  morphs = f.morphs;
  cameras = f.cameras;
  lights = b.lights;
  self_shadows = b.self_shadows;
  properties = b.properties;
  ik_states = n;
}

unfoldable pub scan_end : BytesOver → List ℕ → Front → Back → Answer Scan
scan_end v s f b =
    and_then (walk s b.properties.count b.properties.place 0) λ w.
    over_if (leb (length s) w.next) v (scan_joined f b w.ik_states)
