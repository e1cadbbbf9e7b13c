-- The form of a canonical file, as a technician sees it in its bytes: 02 l). Definitions only. The places are those that opening
-- gives: how many records each section has, and where the first of them stands.
use Rattle.std.specs.Prelude.{ℕ, ◌+◌, ◌*◌, ◌-◌, ◌≤◌, ◌<◌, ◌≡◌, List, length, get_or, drop}
use Rattle.vmd_format.specs.Bytes.{u32}
use Rattle.vmd_format.specs.Answer.{given}
use Rattle.vmd_format.specs.Take.{newer, edition}
use Rattle.vmd_format.specs.Opening.{Extent, Scan}
use Rattle.vmd_laws.specs.Places.{frame_end}

-- "zeros after every name": in a field of w bytes at a place, every byte after a zero is zero
abbrev pub ZerosAfter : List ℕ → ℕ → ℕ → Type 0
ZerosAfter s at w = (i j : ℕ) → i ≤ j → j < w → get_or s (at + i) 0 ≡ 0 → get_or s (at + j) 0 ≡ 0

-- "every flag 0 or 1": the byte at a place
abbrev pub ZeroOrOne : List ℕ → ℕ → Type 0
ZeroOrOne s at = get_or s at 0 ≤ 1

-- "all six counts present with none oversized": the four bytes of the count at a place are in the file, and so are its records,
-- of so many bytes each at least
pub record Counted (size : ℕ) (s : List ℕ) (at : ℕ) : Type 0 where
  pub present : at + 4 ≤ length s
  pub not_oversized : u32 (drop at s) * size ≤ length s - (at + 4)

-- where a section ends, and the count of the next stands
unfoldable pub end_of : ℕ → Extent → ℕ
end_of size p = p.place + p.count * size

pub record AllCounted (s : List ℕ) (x : Scan) : Type 0 where
  pub bones : Counted 111 s 50
  pub morphs : Counted 23 s (end_of 111 x.bones)
  pub cameras : Counted 61 s (end_of 23 x.morphs)
  pub lights : Counted 28 s (end_of 61 x.cameras)
  pub self_shadows : Counted 9 s (end_of 28 x.lights)
  pub properties : Counted 9 s (end_of 9 x.self_shadows)

-- where property frame i stands, and IK state j of the frame at a place
unfoldable pub frame_place : List ℕ → Scan → ℕ → ℕ
frame_place s x i = frame_end s i x.properties.place

unfoldable pub state_place : ℕ → ℕ → ℕ
state_place at j = at + 9 + j * 21

-- how many IK states the frame at a place has
unfoldable pub states_of : List ℕ → ℕ → ℕ
states_of s at = u32 (drop (at + 5) s)

-- "zeros after every name": the model's, bones', morphs' and IK states'
pub record NamesPadded (s : List ℕ) (x : Scan) : Type 0 where
  pub model : ZerosAfter s 30 20
  pub bones : (i : ℕ) → i < x.bones.count → ZerosAfter s (x.bones.place + i * 111) 15
  pub morphs : (i : ℕ) → i < x.morphs.count → ZerosAfter s (x.morphs.place + i * 23) 15
  pub ik_states : (i j : ℕ) → i < x.properties.count → j < states_of s (frame_place s x i) → ZerosAfter s (state_place (frame_place s x i) j) 20

-- "every flag 0 or 1": perspective, visible and enabled
pub record FlagsPlain (s : List ℕ) (x : Scan) : Type 0 where
  pub perspective : (i : ℕ) → i < x.cameras.count → ZeroOrOne s (x.cameras.place + i * 61 + 60)
  pub visible : (i : ℕ) → i < x.properties.count → ZeroOrOne s (frame_place s x i + 4)
  pub enabled : (i j : ℕ) → i < x.properties.count → j < states_of s (frame_place s x i) → ZeroOrOne s (state_place (frame_place s x i) j + 20)

-- "bytes 26 to 29 zero, newer edition, all six counts present with none oversized, zeros after every name, every flag 0 or 1, no
-- bytes over"
pub record Form (s : List ℕ) (x : Scan) : Type 0 where
  pub reserved : (i : ℕ) → 26 ≤ i → i < 30 → get_or s i 0 ≡ 0
  pub newer_edition : edition s ≡ given newer
  pub counts : AllCounted s x
  pub names : NamesPadded s x
  pub flags : FlagsPlain s x
  pub none_over : frame_place s x x.properties.count ≡ length s
