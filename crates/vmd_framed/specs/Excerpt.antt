-- An excerpt of a section and of a take: 02 j). Definitions only.
use Rattle.std.specs.Prelude.{ℕ, ◌-◌, List, map}
use Rattle.vmd_format.specs.Characters.{between}
use Rattle.vmd_format.specs.Records.{Bone, Morph, Camera, Light, SelfShadow, Property}
use Rattle.vmd_format.specs.Take.{Take}
use Rattle.vmd_keys.specs.Names.{select}

-- ---- records

-- a record's frame, and the record at another frame
pub record Framed (A : Type 0) : Type 0 where
  pub frame : A → ℕ
  pub at_frame : ℕ → A → A

unfoldable pub bone_framed : Framed Bone
bone_framed = record {
  frame = λ b. b.frame;
  at_frame = λ n b. record {
    name = b.name;
    frame = n;
    tx = b.tx;
    ty = b.ty;
    tz = b.tz;
    rx = b.rx;
    ry = b.ry;
    rz = b.rz;
    rw = b.rw;
    interpolation = b.interpolation;
  };
}

unfoldable pub morph_framed : Framed Morph
morph_framed = record { frame = λ m. m.frame; at_frame = λ n m. record { name = m.name; frame = n; weight = m.weight } }

unfoldable pub camera_framed : Framed Camera
camera_framed = record {
  frame = λ c. c.frame;
  at_frame = λ n c. record {
    frame = n;
    distance = c.distance;
    px = c.px;
    py = c.py;
    pz = c.pz;
    rx = c.rx;
    ry = c.ry;
    rz = c.rz;
    interpolation = c.interpolation;
    fov = c.fov;
    perspective = c.perspective;
  };
}

unfoldable pub light_framed : Framed Light
light_framed = record {
  frame = λ l. l.frame;
  at_frame = λ n l. record { frame = n; red = l.red; green = l.green; blue = l.blue; dx = l.dx; dy = l.dy; dz = l.dz };
}

unfoldable pub self_shadow_framed : Framed SelfShadow
self_shadow_framed = record { frame = λ s. s.frame; at_frame = λ n s. record { frame = n; mode = s.mode; distance = s.distance } }

unfoldable pub property_framed : Framed Property
property_framed = record {
  frame = λ p. p.frame;
  at_frame = λ n p. record { frame = n; visible = p.visible; ik_states = p.ik_states };
}

-- ---- a section and a take

-- "with the first subtracted from each frame"
unfoldable pub moved : {A : Type 0} → Framed A → ℕ → A → A
moved F first a = F.at_frame (F.frame a - first) a

-- "the records whose frame lies between them, both included"; "Order .. kept"
unfoldable pub excerpt_section : {A : Type 0} → Framed A → ℕ → ℕ → List A → List A
excerpt_section F first last l = map (moved F first) (select (λ a. between first last (F.frame a)) l)

-- ".. and model name are kept."
unfoldable pub excerpt : ℕ → ℕ → Take → Take
excerpt first last t = record {
  model = t.model;
  bones = excerpt_section bone_framed first last t.bones;
  morphs = excerpt_section morph_framed first last t.morphs;
  cameras = excerpt_section camera_framed first last t.cameras;
  lights = excerpt_section light_framed first last t.lights;
  self_shadows = excerpt_section self_shadow_framed first last t.self_shadows;
  properties = excerpt_section property_framed first last t.properties;
}
