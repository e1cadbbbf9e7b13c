-- Files that differ only in bytes on which no figure depends: 02 b), "Takes that differ only in interpolation bytes or in bytes
-- after a name's first zero byte". Two files are compared from the front on, by the first one's counts. Definitions only.
use Rattle.std.specs.Prelude.{ℕ, zero, suc, ◌+◌, ◌*◌, ◌≡◌, List, [], ◌∷◌, map, length, take, drop}
use Rattle.vmd_format.specs.Bytes.{u32}
use Rattle.vmd_format.specs.Records.{Bone, Camera}
use Rattle.vmd_format.specs.Answer.{Answer, declined, given}
use Rattle.vmd_format.specs.Take.{Take, Edition, model_width, edition}

-- what may differ: the bytes after a name's first zero byte, or these and the interpolation bytes
pub data Differing : Type 0 where
  names : Differing
  names_and_interpolation : Differing

-- ---- the bytes of a record

-- so many bytes: of a name's field, of interpolation, or others
pub data Stretch : Type 0 where
  named : ℕ → Stretch
  interpolating : ℕ → Stretch
  others : ℕ → Stretch

abbrev pub wide : Stretch → ℕ
wide (named n) = n
wide (interpolating n) = n
wide (others n) = n

-- two fields of a name: the same bytes up to the first zero byte, and as many after it
abbrev pub SameName : List ℕ → List ℕ → Type 0
SameName [] [] = Unit {0}
SameName [] (b ∷ t) = ⊥
SameName (a ∷ s) [] = ⊥
SameName (zero ∷ s) (zero ∷ t) = length s ≡ length t
SameName (zero ∷ s) (suc b ∷ t) = ⊥
SameName (suc a ∷ s) (zero ∷ t) = ⊥
SameName (suc a ∷ s) (suc b ∷ t) = (a ≡ b) × SameName s t

abbrev pub SameStretch : Differing → Stretch → List ℕ → List ℕ → Type 0
SameStretch d (named n) s t = SameName (take n s) (take n t)
SameStretch names (interpolating n) s t = take n s ≡ take n t
SameStretch names_and_interpolation (interpolating n) s t = length (take n s) ≡ length (take n t)
SameStretch d (others n) s t = take n s ≡ take n t

-- the seven kinds of records (document 01, "Layouts"); a property frame's nine bytes have neither
abbrev pub bone_stretches : List Stretch
bone_stretches = named 15 ∷ others 32 ∷ interpolating 64 ∷ []

abbrev pub morph_stretches : List Stretch
morph_stretches = named 15 ∷ others 8 ∷ []

abbrev pub camera_stretches : List Stretch
camera_stretches = others 32 ∷ interpolating 24 ∷ others 5 ∷ []

abbrev pub light_stretches : List Stretch
light_stretches = others 28 ∷ []

abbrev pub self_shadow_stretches : List Stretch
self_shadow_stretches = others 9 ∷ []

abbrev pub ik_state_stretches : List Stretch
ik_state_stretches = named 20 ∷ others 1 ∷ []

abbrev pub width : List Stretch → ℕ
width [] = 0
width (x ∷ l) = wide x + width l

-- ---- two files

-- a record at the front of both
abbrev pub SameRecord : Differing → List Stretch → List ℕ → List ℕ → Type 0
SameRecord d [] s t = Unit {0}
SameRecord d (x ∷ l) s t = SameStretch d x s t × SameRecord d l (drop (wide x) s) (drop (wide x) t)

-- n records, one after another
unfoldable pub SameRecords : Differing → List Stretch → ℕ → List ℕ → List ℕ → Type 0
SameRecords d l zero s t = Unit {0}
SameRecords d l (suc n) s t = SameRecord d l s t × SameRecords d l n (drop (width l) s) (drop (width l) t)

-- n property frames with their IK states, and the bytes over
unfoldable pub SameFrames : Differing → ℕ → List ℕ → List ℕ → Type 0
SameFrames d zero s t = s ≡ t
SameFrames d (suc n) s t =
    let k = u32 (drop 5 s) in
    (take 9 s ≡ take 9 t) × SameRecords d ik_state_stretches k (drop 9 s) (drop 9 t)
    × SameFrames d n (drop (k * 21) (drop 9 s)) (drop (k * 21) (drop 9 t))

-- sections of such records, each after its count, and then the properties after theirs
unfoldable pub SameSections : Differing → List (List Stretch) → List ℕ → List ℕ → Type 0
SameSections d [] s t = (take 4 s ≡ take 4 t) × SameFrames d (u32 s) (drop 4 s) (drop 4 t)
SameSections d (l ∷ r) s t =
    (take 4 s ≡ take 4 t) × SameRecords d l (u32 s) (drop 4 s) (drop 4 t)
    × SameSections d r (drop (u32 s * width l) (drop 4 s)) (drop (u32 s * width l) (drop 4 t))

abbrev pub all_stretches : List (List Stretch)
all_stretches = bone_stretches ∷ morph_stretches ∷ camera_stretches ∷ light_stretches ∷ self_shadow_stretches ∷ []

-- how wide the field of the model name is; with another magic both files are refused, and any width would do
abbrev pub field_width : Answer Edition → ℕ
field_width (given e) = model_width e
field_width (declined k) = 20

-- The magic's field, the model name's, and the sections. Where a file ends early both do.
pub record DifferOnly (d : Differing) (s t : List ℕ) : Type 0 where
  pub long : length s ≡ length t
  pub magic : take 30 s ≡ take 30 t
  pub model : SameName (take (field_width (edition s)) (drop 30 s)) (take (field_width (edition s)) (drop 30 t))
  pub sections : SameSections d all_stretches (drop (30 + field_width (edition s)) s) (drop (30 + field_width (edition s)) t)

-- of two lists each file and the other's of the same number
abbrev pub DifferEach : Differing → List (List ℕ) → List (List ℕ) → Type 0
DifferEach d [] [] = Unit {0}
DifferEach d [] (t ∷ k) = ⊥
DifferEach d (s ∷ l) [] = ⊥
DifferEach d (s ∷ l) (t ∷ k) = DifferOnly d s t × DifferEach d l k

-- ---- two takes

-- a take without its interpolation bytes: two takes "differ only in interpolation bytes" where these are equal
unfoldable pub bone_without : Bone → Bone
bone_without b = record { name = b.name; frame = b.frame; tx = b.tx; ty = b.ty; tz = b.tz; rx = b.rx; ry = b.ry; rz = b.rz; rw = b.rw; interpolation = [] }

unfoldable pub camera_without : Camera → Camera
camera_without c = record { frame = c.frame; distance = c.distance; px = c.px; py = c.py; pz = c.pz; rx = c.rx; ry = c.ry; rz = c.rz; interpolation = []; fov = c.fov; perspective = c.perspective }

unfoldable pub without_interpolation : Take → Take
without_interpolation t = record {
  model = t.model;
  bones = map bone_without t.bones;
  morphs = t.morphs;
  cameras = map camera_without t.cameras;
  lights = t.lights;
  self_shadows = t.self_shadows;
  properties = t.properties;
}
