-- Sections of two files put together: what is known of them, and their records. Definitions only.
use Rattle.std.specs.Prelude.{ℕ, ◌+◌, ◌≤◌, List, ◌++◌, drop}
use Rattle.vmd_format.specs.Layout.{Layout}
use Rattle.vmd_format.specs.Records.{Property}
use Rattle.vmd_format.specs.Read.{table, write_all}
use Rattle.vmd_format.specs.Take.{property}
use Rattle.vmd_format.specs.Opening.{Extent}
use Rattle.vmd_laws.specs.Places.{Reaches}
use Rattle.vmd_laws.specs.PlacesLaws.{frames_in}
use Rattle.vmd_laws.specs.ScanLaws.{ExtentWithin}

-- records of one size lie in their files, and their counts added up fit
pub record BothWithin (size : ℕ) (s : List ℕ) (p : Extent) (t : List ℕ) (q : Extent) : Type 0 where
  pub first : ExtentWithin size s p
  pub second : ExtentWithin size t q
  pub sum : p.count + q.count ≤ 4294967295

-- property frames
pub record Frames (s : List ℕ) (p : Extent) (t : List ℕ) (q : Extent) : Type 0 where
  pub first : Reaches s p.count p.place
  pub second : Reaches t q.count q.place
  pub sum : p.count + q.count ≤ 4294967295

-- the bytes of the records of one, in canonical form
abbrev pub rows : {A : Type 0} → Layout A → List ℕ → Extent → List ℕ
rows K s p = write_all K.encode (table K p.count (drop p.place s))

abbrev pub frame_rows : List ℕ → Extent → List ℕ
frame_rows s p = write_all property.write (frames_in s p.count p.place)

-- the records of both
unfoldable pub records_of : {A : Type 0} → Layout A → List ℕ → Extent → List ℕ → Extent → List A
records_of K s p t q = table K p.count (drop p.place s) ++ table K q.count (drop q.place t)

unfoldable pub frames_of : List ℕ → Extent → List ℕ → Extent → List Property
frames_of s p t q = frames_in s p.count p.place ++ frames_in t q.count q.place
