-- What each struct holds of a record: every field but names and interpolation bytes. Definitions only.
use Rattle.std.specs.Float.{binary32}
use Rattle.std.specs.Float.Ieee.{of_bits}
use Rattle.vmd_format.specs.Records.{Bone, Morph, Camera, Light, SelfShadow, IkState}
use Rattle.vmd_format.specs.Fetch.{PropertyHead}
use Rattle.vmd_records.specs.declared.VmdParsedBoneFrame.{VmdParsedBoneFrame}
use Rattle.vmd_records.specs.declared.VmdParsedMorphFrame.{VmdParsedMorphFrame}
use Rattle.vmd_records.specs.declared.VmdParsedCameraFrame.{VmdParsedCameraFrame}
use Rattle.vmd_records.specs.declared.VmdParsedLightFrame.{VmdParsedLightFrame}
use Rattle.vmd_records.specs.declared.VmdParsedLightBits.{VmdParsedLightBits}
use Rattle.vmd_records.specs.declared.VmdParsedSelfShadowFrame.{VmdParsedSelfShadowFrame}
use Rattle.vmd_records.specs.declared.VmdParsedPropertyFrame.{VmdParsedPropertyFrame}
use Rattle.vmd_records.specs.declared.VmdParsedIkState.{VmdParsedIkState}

unfoldable pub bone_fields : Bone → VmdParsedBoneFrame
bone_fields b = record {
  frame = b.frame;
  translation_x = b.tx;
  translation_y = b.ty;
  translation_z = b.tz;
  rotation_x = b.rx;
  rotation_y = b.ry;
  rotation_z = b.rz;
  rotation_w = b.rw;
}

unfoldable pub morph_fields : Morph → VmdParsedMorphFrame
morph_fields m = record { frame = m.frame; weight = m.weight }

unfoldable pub camera_fields : Camera → VmdParsedCameraFrame
camera_fields c = record {
  frame = c.frame;
  distance = c.distance;
  position_x = c.px;
  position_y = c.py;
  position_z = c.pz;
  rotation_x = c.rx;
  rotation_y = c.ry;
  rotation_z = c.rz;
  fov = c.fov;
  perspective = c.perspective;
}

-- six floats: every NaN is the one NaN
unfoldable pub light_floats : Light → VmdParsedLightFrame
light_floats l = record {
  frame = l.frame;
  color_r = of_bits binary32 l.red;
  color_g = of_bits binary32 l.green;
  color_b = of_bits binary32 l.blue;
  direction_x = of_bits binary32 l.dx;
  direction_y = of_bits binary32 l.dy;
  direction_z = of_bits binary32 l.dz;
}

-- the exact bits
unfoldable pub light_bits : Light → VmdParsedLightBits
light_bits l = record {
  frame = l.frame;
  color_r = l.red;
  color_g = l.green;
  color_b = l.blue;
  direction_x = l.dx;
  direction_y = l.dy;
  direction_z = l.dz;
}

unfoldable pub self_shadow_fields : SelfShadow → VmdParsedSelfShadowFrame
self_shadow_fields s = record { frame = s.frame; mode = s.mode; distance = s.distance }

unfoldable pub property_fields : PropertyHead → VmdParsedPropertyFrame
property_fields p = record { frame = p.frame; visible = p.visible; ik_count = p.ik_count }

unfoldable pub ik_fields : IkState → VmdParsedIkState
ik_fields k = record { enabled = k.enabled }
