-- The bytes of an excerpt by where its records stand. Nothing here has to be believed. Definitions only.
use Rattle.std.specs.Prelude.{ℕ, List, ◌++◌}
use Rattle.vmd_format.specs.Records.{bone, morph, camera, light, self_shadow}
use Rattle.vmd_format.specs.Read.{fixed, write_counted}
use Rattle.vmd_format.specs.Take.{property}
use Rattle.vmd_format.specs.Opening.{Scan}
use Rattle.vmd_records.specs.declared.VmdKind.TheVariants as kind
use Rattle.vmd_excerpt_sections.specs.Rows.{kept_rows, kept_frames}

module _ (first last : ℕ) (s : List ℕ) (x : Scan) where
  abbrev pub bone_bytes : List ℕ
  bone_bytes = write_counted (fixed bone) (kept_rows kind.Bone first last s x.bones.count x.bones.place)

  abbrev pub morph_bytes : List ℕ
  morph_bytes = write_counted (fixed morph) (kept_rows kind.Morph first last s x.morphs.count x.morphs.place)

  abbrev pub camera_bytes : List ℕ
  camera_bytes = write_counted (fixed camera) (kept_rows kind.Camera first last s x.cameras.count x.cameras.place)

  abbrev pub light_bytes : List ℕ
  light_bytes = write_counted (fixed light) (kept_rows kind.Light first last s x.lights.count x.lights.place)

  abbrev pub shadow_bytes : List ℕ
  shadow_bytes = write_counted (fixed self_shadow) (kept_rows kind.SelfShadow first last s x.self_shadows.count x.self_shadows.place)

  abbrev pub frame_bytes : List ℕ
  frame_bytes = write_counted property (kept_frames first last s x.properties.count x.properties.place)

  -- bones, morphs and cameras; lights, self-shadows and properties
  unfoldable pub front_bytes : List ℕ
  front_bytes = bone_bytes ++ (morph_bytes ++ camera_bytes)

  unfoldable pub back_bytes : List ℕ
  back_bytes = light_bytes ++ (shadow_bytes ++ frame_bytes)
