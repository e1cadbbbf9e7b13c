-- What each struct holds, from the bytes of a record: every field has other bytes than the rest, so a field out of its place
-- shows. The bytes count up from 1; numbers are in hexadecimal, two digits a byte.
use Rattle.std.specs.Prelude.{◌≡◌, refl, true, false, pos}
use Rattle.std.specs.Float.{nan, fin}
use Rattle.std.specs.Float.Ieee.{of_bits}
use Rattle.vmd_format.specs.Records.{bone, morph, camera, light, self_shadow, ik_state}
use Rattle.vmd_format.specs.Fetch.{property_at}
use Rattle.vmd_format.specs.Computed.{computed, counting}
use Rattle.vmd_records.specs.Fields.{bone_fields, morph_fields, camera_fields, light_floats, light_bits, self_shadow_fields, property_fields, ik_fields}

pub a_bone :
    bone_fields (bone.decode (counting 1 111))
    ≡ record {
      frame = 0x13121110;
      translation_x = 0x17161514;
      translation_y = 0x1b1a1918;
      translation_z = 0x1f1e1d1c;
      rotation_x = 0x23222120;
      rotation_y = 0x27262524;
      rotation_z = 0x2b2a2928;
      rotation_w = 0x2f2e2d2c;
    }
unfolding computed bone_fields
a_bone = refl

pub a_morph : morph_fields (morph.decode (counting 1 23)) ≡ record { frame = 0x13121110; weight = 0x17161514 }
unfolding computed morph_fields
a_morph = refl

pub a_camera :
    camera_fields (camera.decode (counting 1 61))
    ≡ record {
      frame = 0x04030201;
      distance = 0x08070605;
      position_x = 0x0c0b0a09;
      position_y = 0x100f0e0d;
      position_z = 0x14131211;
      rotation_x = 0x18171615;
      rotation_y = 0x1c1b1a19;
      rotation_z = 0x201f1e1d;
      fov = 0x3c3b3a39;
      perspective = false;
    }
unfolding computed camera_fields
a_camera = refl

pub a_light :
    light_bits (light.decode (counting 1 28))
    ≡ record {
      frame = 0x04030201;
      color_r = 0x08070605;
      color_g = 0x0c0b0a09;
      color_b = 0x100f0e0d;
      direction_x = 0x14131211;
      direction_y = 0x18171615;
      direction_z = 0x1c1b1a19;
    }
unfolding computed light_bits
a_light = refl

-- the same as floats: 1, 2, 3, -1, -0 and a NaN, which has no payload there
pub a_light_in_floats :
    light_floats (record { frame = 7; red = 0x3f800000; green = 0x40000000; blue = 0x40400000; dx = 0xbf800000; dy = 0x80000000; dz = 0x7f800001 })
    ≡ record {
      frame = 7;
      color_r = fin false 1 (pos 0);
      color_g = fin false 1 (pos 1);
      color_b = fin false 3 (pos 0);
      direction_x = fin true 1 (pos 0);
      direction_y = fin true 0 (pos 0);
      direction_z = nan;
    }
unfolding light_floats of_bits
a_light_in_floats = refl

pub a_self_shadow : self_shadow_fields (self_shadow.decode (counting 1 9)) ≡ record { frame = 0x04030201; mode = 5; distance = 0x09080706 }
unfolding computed self_shadow_fields
a_self_shadow = refl

pub a_property : property_fields (property_at (counting 1 9) 0) ≡ record { frame = 0x04030201; visible = true; ik_count = 0x09080706 }
unfolding computed property_fields
a_property = refl

pub an_ik_state : ik_fields (ik_state.decode (counting 1 21)) ≡ record { enabled = true }
unfolding computed ik_fields
an_ik_state = refl
