-- A scanned take tidied, section by section. Nothing here has to be believed. Definitions only.
use Rattle.std.specs.Prelude.{ℕ, ◌+◌, ◌≤◌, max, ◌≡◌, Bool, true, false, List, ◌++◌, length}
use Rattle.vmd_format.specs.Answer.{Answer, declined, given}
use Rattle.vmd_format.specs.Records.{bone, morph, camera, light, self_shadow}
use Rattle.vmd_format.specs.Read.{fixed, write_counted}
use Rattle.vmd_format.specs.Take.{Take, property}
use Rattle.vmd_format.specs.Opening.{ik_total, Scan}
use Rattle.vmd_format.specs.Fetch.{model_of}
use Rattle.vmd_records.specs.declared.VmdKind.TheVariants as kind
use Rattle.vmd_tidy_sections.specs.Sections.{tidied_rows, tidied_frames}
use Rattle.vmd_tidy.specs.Tidied.{Counts, counts_of}

abbrev pub is_given : Answer ℕ → Bool
is_given (declined k) = false
is_given (given n) = true

abbrev pub size_given : Answer ℕ → ℕ
size_given (declined k) = 0
size_given (given n) = n

unfoldable pub largest_count : Scan → ℕ
largest_count x =
    max x.bones.count (max x.morphs.count (max x.cameras.count
    (max x.lights.count (max x.self_shadows.count x.properties.count))))

-- the take of a scan, tidied
unfoldable pub tidied_at : List ℕ → Scan → Take
tidied_at s x = record {
  model = model_of s;
  bones = tidied_rows kind.Bone s x.bones;
  morphs = tidied_rows kind.Morph s x.morphs;
  cameras = tidied_rows kind.Camera s x.cameras;
  lights = tidied_rows kind.Light s x.lights;
  self_shadows = tidied_rows kind.SelfShadow s x.self_shadows;
  properties = tidied_frames s x.properties;
}

unfoldable pub counts_at : List ℕ → Scan → Counts
counts_at s x = counts_of (tidied_at s x)

-- the bytes of the first three sections, and of the last three
unfoldable pub front_bytes : List ℕ → Scan → List ℕ
front_bytes s x =
    write_counted (fixed bone) (tidied_rows kind.Bone s x.bones)
    ++ (write_counted (fixed morph) (tidied_rows kind.Morph s x.morphs)
    ++ write_counted (fixed camera) (tidied_rows kind.Camera s x.cameras))

unfoldable pub back_bytes : List ℕ → Scan → List ℕ
back_bytes s x =
    write_counted (fixed light) (tidied_rows kind.Light s x.lights)
    ++ (write_counted (fixed self_shadow) (tidied_rows kind.SelfShadow s x.self_shadows)
    ++ write_counted property (tidied_frames s x.properties))

-- so many records of each are kept
pub record Front (s : List ℕ) (x : Scan) (bones morphs cameras : ℕ) : Type 0 where
  pub bones_are : bones ≡ length (tidied_rows kind.Bone s x.bones)
  pub morphs_are : morphs ≡ length (tidied_rows kind.Morph s x.morphs)
  pub cameras_are : cameras ≡ length (tidied_rows kind.Camera s x.cameras)

pub record Back (s : List ℕ) (x : Scan) (lights shadows properties : ℕ) : Type 0 where
  pub lights_are : lights ≡ length (tidied_rows kind.Light s x.lights)
  pub shadows_are : shadows ≡ length (tidied_rows kind.SelfShadow s x.self_shadows)
  pub properties_are : properties ≡ length (tidied_frames s x.properties)

-- so many of each section are kept, and so many IK states
pub record Kept (s : List ℕ) (x : Scan) (k : Counts) (ik_states : ℕ) : Type 0 where
  pub counts_are : k ≡ counts_at s x
  pub states_are : ik_states ≡ ik_total (tidied_at s x).properties

-- not more records than a scan has, and the others
pub record Fewer (k : Counts) (x : Scan) : Type 0 where
  pub bones : k.bones ≤ x.bones.count
  pub morphs : k.morphs ≤ x.morphs.count
  pub cameras : k.cameras ≤ x.cameras.count
  pub lights : k.lights ≤ x.lights.count
  pub self_shadows : k.self_shadows ≤ x.self_shadows.count
  pub properties : k.properties ≤ x.properties.count

pub record Whole (k d : Counts) (x : Scan) : Type 0 where
  pub bones : k.bones + d.bones ≡ x.bones.count
  pub morphs : k.morphs + d.morphs ≡ x.morphs.count
  pub cameras : k.cameras + d.cameras ≡ x.cameras.count
  pub lights : k.lights + d.lights ≡ x.lights.count
  pub self_shadows : k.self_shadows + d.self_shadows ≡ x.self_shadows.count
  pub properties : k.properties + d.properties ≡ x.properties.count
