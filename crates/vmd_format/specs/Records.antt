-- The seven kinds of records and their layouts: document 01, "Layouts". Definitions only. A float field is its 32 bits.
use Rattle.std.specs.Prelude.{ℕ, Bool, List}
use Rattle.vmd_format.specs.Layout.{Layout, number, byte, flag, inverted, name, raw, ◌⊗◌, as_record}

-- "bone: name 15, frame u32, translation 3 floats, rotation 4 floats, interpolation 64 bytes"
pub record Bone : Type 0 where
  pub name : List ℕ
  pub frame : ℕ
  pub tx : ℕ
  pub ty : ℕ
  pub tz : ℕ
  pub rx : ℕ
  pub ry : ℕ
  pub rz : ℕ
  pub rw : ℕ
  pub interpolation : List ℕ

unfoldable pub bone : Layout Bone
bone =
    as_record
    (λ (n, (f, (a, (b, (c, (d, (e, (g, (h, i))))))))). record { name = n; frame = f; tx = a; ty = b; tz = c; rx = d; ry = e; rz = g; rw = h; interpolation = i })
    (λ b. (b.name, (b.frame, (b.tx, (b.ty, (b.tz, (b.rx, (b.ry, (b.rz, (b.rw, b.interpolation))))))))))
    (name 15 ⊗ number ⊗ number ⊗ number ⊗ number ⊗ number ⊗ number ⊗ number ⊗ number ⊗ raw 64)

-- "morph: name 15, frame u32, weight float"
pub record Morph : Type 0 where
  pub name : List ℕ
  pub frame : ℕ
  pub weight : ℕ

unfoldable pub morph : Layout Morph
morph =
    as_record (λ (n, (f, w)). record { name = n; frame = f; weight = w }) (λ m. (m.name, (m.frame, m.weight)))
    (name 15 ⊗ number ⊗ number)

-- "camera: frame u32, distance float, position 3, rotation 3, interpolation 24 bytes, field of view u32, perspective byte"
pub record Camera : Type 0 where
  pub frame : ℕ
  pub distance : ℕ
  pub px : ℕ
  pub py : ℕ
  pub pz : ℕ
  pub rx : ℕ
  pub ry : ℕ
  pub rz : ℕ
  pub interpolation : List ℕ
  pub fov : ℕ
  pub perspective : Bool

unfoldable pub camera : Layout Camera
camera =
    as_record
    (λ (f, (d, (a, (b, (c, (e, (g, (h, (i, (v, p)))))))))). record { frame = f; distance = d; px = a; py = b; pz = c; rx = e; ry = g; rz = h; interpolation = i; fov = v; perspective = p })
    (λ c. (c.frame, (c.distance, (c.px, (c.py, (c.pz, (c.rx, (c.ry, (c.rz, (c.interpolation, (c.fov, c.perspective)))))))))))
    (number ⊗ number ⊗ number ⊗ number ⊗ number ⊗ number ⊗ number ⊗ number ⊗ raw 24 ⊗ number ⊗ inverted)

-- "light: frame u32, color 3 floats, direction 3 floats"
pub record Light : Type 0 where
  pub frame : ℕ
  pub red : ℕ
  pub green : ℕ
  pub blue : ℕ
  pub dx : ℕ
  pub dy : ℕ
  pub dz : ℕ

unfoldable pub light : Layout Light
light =
    as_record (λ (f, (a, (b, (c, (d, (e, g)))))). record { frame = f; red = a; green = b; blue = c; dx = d; dy = e; dz = g })
    (λ l. (l.frame, (l.red, (l.green, (l.blue, (l.dx, (l.dy, l.dz)))))))
    (number ⊗ number ⊗ number ⊗ number ⊗ number ⊗ number ⊗ number)

-- "self-shadow: frame u32, mode byte, distance float"; "Self-shadow mode is any byte in the reader."
pub record SelfShadow : Type 0 where
  pub frame : ℕ
  pub mode : ℕ
  pub distance : ℕ

unfoldable pub self_shadow : Layout SelfShadow
self_shadow =
    as_record (λ (f, (m, d)). record { frame = f; mode = m; distance = d }) (λ s. (s.frame, (s.mode, s.distance)))
    (number ⊗ byte ⊗ number)

-- "IK state: name 20, enabled byte"
pub record IkState : Type 0 where
  pub name : List ℕ
  pub enabled : Bool

unfoldable pub ik_state : Layout IkState
ik_state = as_record (λ (n, e). record { name = n; enabled = e }) (λ k. (k.name, k.enabled)) (name 20 ⊗ flag)

-- "property: frame u32, visible byte, IK count u32, then its IK states"
pub record Property : Type 0 where
  pub frame : ℕ
  pub visible : Bool
  pub ik_states : List IkState

-- what a property frame has before its IK count
unfoldable pub property_head : Layout (ℕ × Bool)
property_head = number ⊗ flag
