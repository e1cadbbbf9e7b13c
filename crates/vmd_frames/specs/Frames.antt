-- What a pass over the frames of a file gathers, record after record and section after section. Definitions only.
use Rattle.std.specs.Prelude.{ℕ, min, max, List, [], ◌∷◌}
use Rattle.vmd_format.specs.Opening.{smallest, largest, Extent, Scan}
use Rattle.vmd_laws.specs.Places.{frames_from, extent_frames, property_frames, scan_frames}
use Rattle.vmd_records.specs.declared.VmdKind.{VmdKind}
use Rattle.vmd_records.specs.Kinds.{size_of, frame_at}
use Rattle.vmd_frames.specs.declared.VmdFrames.{VmdFrames}

-- before any frame: no frame is above the first or below the second
abbrev pub no_frames : VmdFrames
no_frames = record { smallest = 4294967295; largest = 0 }

abbrev pub with_frame : VmdFrames → ℕ → VmdFrames
with_frame f x = record { smallest = min f.smallest x; largest = max f.largest x }

-- with the frames of a list, one after another
unfoldable pub with_frames : VmdFrames → List ℕ → VmdFrames
with_frames f [] = f
with_frames f (x ∷ l) = with_frames (with_frame f x) l

-- with n frames from a place on
abbrev pub seen : (ℕ → ℕ) → ℕ → List ℕ → ℕ → ℕ → VmdFrames → VmdFrames
seen next offset s n at f = with_frames f (frames_from next offset s n at)

abbrev pub with_records : VmdKind → List ℕ → Extent → VmdFrames → VmdFrames
with_records k s p f = with_frames f (extent_frames (frame_at k) (size_of k) s p)

abbrev pub with_properties : List ℕ → Extent → VmdFrames → VmdFrames
with_properties s p f = with_frames f (property_frames s p)

-- the smallest and the largest frame of all six sections
unfoldable pub frames_of : List ℕ → Scan → VmdFrames
frames_of s x = record { smallest = smallest (scan_frames s x); largest = largest (scan_frames s x) }
