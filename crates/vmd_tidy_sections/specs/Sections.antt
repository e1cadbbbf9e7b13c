-- The sections of a take by where their records stand. Nothing here has to be believed. Definitions only.
use Rattle.std.specs.Prelude.{ℕ, ◌+◌, List, drop}
use Rattle.vmd_format.specs.Bytes.{u32}
use Rattle.vmd_format.specs.Layout.{Layout}
use Rattle.vmd_format.specs.Records.{Property}
use Rattle.vmd_format.specs.Read.{table}
use Rattle.vmd_format.specs.Opening.{Extent}
use Rattle.vmd_format.specs.Take.{property}
use Rattle.vmd_laws.specs.PlacesLaws.{property_in, frames_in}
use Rattle.vmd_records.specs.declared.VmdKind.{VmdKind}
use Rattle.vmd_records.specs.declared.VmdKind.TheVariants as kind
use Rattle.vmd_records.specs.Kinds.{Row, layout, size_of, frame_at}
use Rattle.vmd_keys.specs.Names.{registration_name, track_in}
use Rattle.vmd_tracks.specs.Tracks.{lasts, tidy_section, one_track}
use Rattle.vmd_sort.specs.Walk.{step, places_by}
use Rattle.vmd_sort.specs.declared.VmdOrder.{VmdOrder}
use Rattle.vmd_sort.specs.declared.VmdOrder.TheVariants as order
use Rattle.vmd_sort.specs.declared.VmdStride.{VmdStride}
use Rattle.vmd_sort.specs.declared.VmdStride.TheVariants as stride

-- the canonical bytes of the record at a place
abbrev pub placed : {A : Type 0} → Layout A → List ℕ → ℕ → List ℕ
placed K s p = K.encode (K.decode (drop p s))

-- the same of what stands there, a record or a property frame
abbrev pub written_at : VmdStride → List ℕ → ℕ → List ℕ
written_at (stride.Records k) s p = placed (layout k) s p
written_at stride.PropertyFrames s p = property.write (property_in s p)

-- what tells the records of a kind apart
abbrev pub order_of : VmdKind → VmdOrder
order_of kind.Bone = order.NameFrame
order_of kind.Morph = order.NameFrame
order_of kind.Camera = order.Frame
order_of kind.Light = order.Frame
order_of kind.SelfShadow = order.Frame

-- what a record's track is told by, and its frame
abbrev pub track_of : (k : VmdKind) → Row k → List ℕ
track_of kind.Bone b = registration_name b.name
track_of kind.Morph m = registration_name m.name
track_of kind.Camera c = one_track c
track_of kind.Light l = one_track l
track_of kind.SelfShadow s = one_track s

abbrev pub frame_of : (k : VmdKind) → Row k → ℕ
frame_of kind.Bone b = b.frame
frame_of kind.Morph m = m.frame
frame_of kind.Camera c = c.frame
frame_of kind.Light l = l.frame
frame_of kind.SelfShadow s = s.frame

-- the same of the record at a place
abbrev pub track_at : VmdKind → List ℕ → ℕ → List ℕ
track_at kind.Bone s p = track_in s p
track_at kind.Morph s p = track_in s p
track_at kind.Camera s p = one_track p
track_at kind.Light s p = one_track p
track_at kind.SelfShadow s p = one_track p

-- where the records stand that tidying keeps, and the records
unfoldable pub tidied_places : VmdKind → List ℕ → Extent → List ℕ
tidied_places k s x =
    tidy_section (track_at k s) (λ p. u32 (drop (p + frame_at k) s)) (places_by (step s (size_of k)) x.count x.place)

unfoldable pub tidied_rows : (k : VmdKind) → List ℕ → Extent → List (Row k)
tidied_rows k s x = tidy_section (track_of k) (frame_of k) (table (layout k) x.count (drop x.place s))

-- property frames
unfoldable pub tidied_frame_places : List ℕ → Extent → List ℕ
tidied_frame_places s x = lasts (λ p. u32 (drop p s)) (places_by (step s 0) x.count x.place)

unfoldable pub tidied_frames : List ℕ → Extent → List Property
tidied_frames s x = tidy_section one_track (λ p. p.frame) (frames_in s x.count x.place)
