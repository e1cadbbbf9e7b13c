-- The kinds of records that have one size: what a record of a kind is, and its layout. Definitions only.
use Rattle.std.specs.Prelude.{ℕ}
use Rattle.vmd_format.specs.Layout.{Layout}
use Rattle.vmd_format.specs.Records.{Bone, Morph, Camera, Light, SelfShadow, bone, morph, camera, light, self_shadow}
use Rattle.vmd_records.specs.declared.VmdKind.{VmdKind}
use Rattle.vmd_records.specs.declared.VmdKind.TheVariants as kind

abbrev pub Row : VmdKind → Type 0
Row kind.Bone = Bone
Row kind.Morph = Morph
Row kind.Camera = Camera
Row kind.Light = Light
Row kind.SelfShadow = SelfShadow

abbrev pub layout : (k : VmdKind) → Layout (Row k)
layout kind.Bone = bone
layout kind.Morph = morph
layout kind.Camera = camera
layout kind.Light = light
layout kind.SelfShadow = self_shadow

abbrev pub size_of : VmdKind → ℕ
size_of kind.Bone = 111
size_of kind.Morph = 23
size_of kind.Camera = 61
size_of kind.Light = 28
size_of kind.SelfShadow = 9

-- where the frame stands in a record
abbrev pub frame_at : VmdKind → ℕ
frame_at kind.Bone = 15
frame_at kind.Morph = 15
frame_at kind.Camera = 0
frame_at kind.Light = 0
frame_at kind.SelfShadow = 0
