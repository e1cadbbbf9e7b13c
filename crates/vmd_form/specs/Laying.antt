-- How the sections of a file that was scanned are laid one after another, and their canonical bytes. Nothing here has to be
-- believed. Definitions only.
use Rattle.std.specs.Prelude.{ℕ, ◌+◌, ◌≤◌, ◌≡◌, List, length, drop}
use Rattle.vmd_format.specs.Bytes.{u32}
use Rattle.vmd_format.specs.Answer.{given}
use Rattle.vmd_format.specs.Layout.{Layout}
use Rattle.vmd_format.specs.Read.{fixed, table, write_counted}
use Rattle.vmd_format.specs.Take.{property}
use Rattle.vmd_format.specs.Opening.{Extent, Scan}
use Rattle.vmd_laws.specs.ExportLaws.{Scanned}
use Rattle.vmd_laws.specs.Places.{header_place}
use Rattle.vmd_laws.specs.PlacesLaws.{frames_in}
use Rattle.vmd_form.specs.Compare.{Compared, agrees}
use Rattle.vmd_form.specs.Form.{Counted, end_of}

-- A section whose count is to stand at a place: it is there and not oversized, or the section has no records.
pub data Laid (size : ℕ) (s : List ℕ) (at : ℕ) (p : Extent) : Type 0 where
  found : Counted size s at → p.count ≡ u32 (drop at s) → p.place ≡ at + 4 → Laid size s at p
  gone : (Counted size s at → ⊥) → p.count ≡ 0 → p.place ≡ length s → Laid size s at p

-- all six, the first from a place on
pub record LaidOut (s : List ℕ) (at : ℕ) (x : Scan) : Type 0 where
  pub bones : Laid 111 s at x.bones
  pub morphs : Laid 23 s (end_of 111 x.bones) x.morphs
  pub cameras : Laid 61 s (end_of 23 x.morphs) x.cameras
  pub lights : Laid 28 s (end_of 61 x.cameras) x.lights
  pub self_shadows : Laid 9 s (end_of 28 x.lights) x.self_shadows
  pub properties : Laid 9 s (end_of 9 x.self_shadows) x.properties

-- a file whose header was read
pub record HeaderRead (s : List ℕ) : Type 0 where
  pub at : ℕ
  pub place : header_place s ≡ given at

-- a file that was scanned
pub record ScannedFrom (s : List ℕ) (x : Scan) : Type 0 where
  pub header : HeaderRead s
  pub laid : LaidOut s header.at x
  pub scanned : Scanned s x

-- where the comparison stands once what comes before a section has been compared: at its count, which may be missing
abbrev pub Reached : ℕ → List ℕ → Compared → Extent → Type 0
Reached size s c p = (q : ℕ) → c ≡ agrees q → (q ≤ length s) × Laid size s q p

-- the canonical bytes of a section
abbrev pub section_bytes : {A : Type 0} → Layout A → List ℕ → Extent → List ℕ
section_bytes K s p = write_counted (fixed K) (table K p.count (drop p.place s))

abbrev pub frames_bytes : List ℕ → Extent → List ℕ
frames_bytes s p = write_counted property (frames_in s p.count p.place)
