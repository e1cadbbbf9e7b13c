-- The sections of an excerpt by where their records stand. Nothing here has to be believed. Definitions only.
use Rattle.std.specs.Prelude.{ℕ, ◌≡◌, Bool, true, false, List, ◌++◌, drop}
use Rattle.vmd_format.specs.Records.{Property}
use Rattle.vmd_format.specs.Read.{table}
use Rattle.vmd_laws.specs.PlacesLaws.{frames_in}
use Rattle.vmd_records.specs.declared.VmdKind.{VmdKind}
use Rattle.vmd_records.specs.declared.VmdKind.TheVariants as kind
use Rattle.vmd_records.specs.Kinds.{Row, layout}
use Rattle.vmd_framed.specs.Excerpt.{Framed, bone_framed, morph_framed, camera_framed, light_framed, self_shadow_framed, property_framed, excerpt_section}

abbrev pub framed : (k : VmdKind) → Framed (Row k)
framed kind.Bone = bone_framed
framed kind.Morph = morph_framed
framed kind.Camera = camera_framed
framed kind.Light = light_framed
framed kind.SelfShadow = self_shadow_framed

-- the records of a kind from a place on
abbrev pub rows : (k : VmdKind) → List ℕ → ℕ → ℕ → List (Row k)
rows k s n at = table (layout k) n (drop at s)

-- those that stay, at their new frames
unfoldable pub kept_rows : (k : VmdKind) → ℕ → ℕ → List ℕ → ℕ → ℕ → List (Row k)
kept_rows k first last s n at = excerpt_section (framed k) first last (rows k s n at)

-- the same of property frames
unfoldable pub kept_frames : ℕ → ℕ → List ℕ → ℕ → ℕ → List Property
kept_frames first last s n at = excerpt_section property_framed first last (frames_in s n at)

-- these bytes stand at a place, and others after them
pub record Stands (l : List ℕ) (at : ℕ) (bytes : List ℕ) : Type 0 where
  pub after : List ℕ
  pub are : drop at l ≡ bytes ++ after

-- a number, or 0
unfoldable pub number_if : Bool → ℕ → ℕ
number_if true n = n
number_if false n = 0
