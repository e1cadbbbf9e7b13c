-- A record of a kind has the kind's size. Assumes nothing.
use Rattle.vmd_laws.specs.SizedLaws.{Sized, bone_sized, morph_sized, camera_sized, light_sized, self_shadow_sized}
use Rattle.vmd_records.specs.declared.VmdKind.{VmdKind}
use Rattle.vmd_records.specs.declared.VmdKind.TheVariants as kind
use Rattle.vmd_records.specs.Kinds.{layout, size_of}

pub kind_sized : (k : VmdKind) → Sized (layout k) (size_of k)
kind_sized kind.Bone = bone_sized
kind_sized kind.Morph = morph_sized
kind_sized kind.Camera = camera_sized
kind_sized kind.Light = light_sized
kind_sized kind.SelfShadow = self_shadow_sized
