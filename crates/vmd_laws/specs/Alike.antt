-- When the records of two takes are equal: document 01, "Words of demand 3". Then the takes are the same, and only then.
use Rattle.std.specs.Prelude.{ℕ, suc, ◌<◌, ◌≡◌, refl, ◌↔◌, List, [], ◌∷◌, length, get_or}
use Rattle.std.proofs.Common.{subst, arith}
use Rattle.vmd_format.specs.Records.{Bone, Morph, Camera, Light, SelfShadow, IkState, Property}
use Rattle.vmd_format.specs.Take.{Take}

-- ---- definitions

-- "every section has as many in both and those of the same number agree"
pub record Alike {A : Type 0} (Agree : A → A → Type 0) (l r : List A) : Type 0 where
  pub as_many : length l ≡ length r
  pub agree : (i : ℕ) (d : A) → i < length l → Agree (get_or l i d) (get_or r i d)

-- "in every field: names as the bytes before the first zero, floats by their 32 bits, flags as true or false, IK states in
-- number, order and each field, all else byte for byte": each field is one of these in the definition of its record
pub record SameBone (a b : Bone) : Type 0 where
  pub name : a.name ≡ b.name
  pub frame : a.frame ≡ b.frame
  pub tx : a.tx ≡ b.tx
  pub ty : a.ty ≡ b.ty
  pub tz : a.tz ≡ b.tz
  pub rx : a.rx ≡ b.rx
  pub ry : a.ry ≡ b.ry
  pub rz : a.rz ≡ b.rz
  pub rw : a.rw ≡ b.rw
  pub interpolation : a.interpolation ≡ b.interpolation

pub record SameMorph (a b : Morph) : Type 0 where
  pub name : a.name ≡ b.name
  pub frame : a.frame ≡ b.frame
  pub weight : a.weight ≡ b.weight

pub record SameCamera (a b : Camera) : Type 0 where
  pub frame : a.frame ≡ b.frame
  pub distance : a.distance ≡ b.distance
  pub px : a.px ≡ b.px
  pub py : a.py ≡ b.py
  pub pz : a.pz ≡ b.pz
  pub rx : a.rx ≡ b.rx
  pub ry : a.ry ≡ b.ry
  pub rz : a.rz ≡ b.rz
  pub interpolation : a.interpolation ≡ b.interpolation
  pub fov : a.fov ≡ b.fov
  pub perspective : a.perspective ≡ b.perspective

pub record SameLight (a b : Light) : Type 0 where
  pub frame : a.frame ≡ b.frame
  pub red : a.red ≡ b.red
  pub green : a.green ≡ b.green
  pub blue : a.blue ≡ b.blue
  pub dx : a.dx ≡ b.dx
  pub dy : a.dy ≡ b.dy
  pub dz : a.dz ≡ b.dz

pub record SameSelfShadow (a b : SelfShadow) : Type 0 where
  pub frame : a.frame ≡ b.frame
  pub mode : a.mode ≡ b.mode
  pub distance : a.distance ≡ b.distance

pub record SameIkState (a b : IkState) : Type 0 where
  pub name : a.name ≡ b.name
  pub enabled : a.enabled ≡ b.enabled

pub record SameProperty (a b : Property) : Type 0 where
  pub frame : a.frame ≡ b.frame
  pub visible : a.visible ≡ b.visible
  pub ik_states : Alike SameIkState a.ik_states b.ik_states

-- "their records and model names are equal"
pub record SameRecords (t u : Take) : Type 0 where
  pub model : t.model ≡ u.model
  pub bones : Alike SameBone t.bones u.bones
  pub morphs : Alike SameMorph t.morphs u.morphs
  pub cameras : Alike SameCamera t.cameras u.cameras
  pub lights : Alike SameLight t.lights u.lights
  pub self_shadows : Alike SameSelfShadow t.self_shadows u.self_shadows
  pub properties : Alike SameProperty t.properties u.properties

-- ---- a section

-- records that agree just where they are equal
record Tells {A : Type 0} (Agree : A → A → Type 0) : Type 0 where
  equal : (a b : A) → Agree a b → a ≡ b
  same : (a : A) → Agree a a

module _ {A : Type 0} {Agree : A → A → Type 0} (h : Tells Agree) where
  alike_equal : (l r : List A) → Alike Agree l r → l ≡ r
  alike_equal [] [] k = refl
  alike_equal [] (b ∷ r) k = absurd (omega (arith, k.as_many))
  alike_equal (a ∷ l) [] k = absurd (omega (arith, k.as_many))
  alike_equal (a ∷ l) (b ∷ r) k =
      let e : a ≡ b = h.equal a b (k.agree 0 a (omega arith)) in
      let q : l ≡ r = alike_equal l r (record { as_many = omega (arith, k.as_many); agree = λ i d n. k.agree (suc i) d (omega arith) }) in
      cc

  sections_tell : Tells (Alike Agree)
  sections_tell = record { equal = alike_equal; same = λ l. record { as_many = refl; agree = λ i d n. h.same (get_or l i d) } }

-- ---- records

bones_tell : Tells SameBone
bones_tell = record {
  equal = λ a b e i. record { name = e.name i; frame = e.frame i; tx = e.tx i; ty = e.ty i; tz = e.tz i; rx = e.rx i; ry = e.ry i; rz = e.rz i; rw = e.rw i; interpolation = e.interpolation i };
  same = λ a. search;
}

morphs_tell : Tells SameMorph
morphs_tell = record {
  equal = λ a b e i. record { name = e.name i; frame = e.frame i; weight = e.weight i };
  same = λ a. search;
}

cameras_tell : Tells SameCamera
cameras_tell = record {
  equal = λ a b e i. record { frame = e.frame i; distance = e.distance i; px = e.px i; py = e.py i; pz = e.pz i; rx = e.rx i; ry = e.ry i; rz = e.rz i; interpolation = e.interpolation i; fov = e.fov i; perspective = e.perspective i };
  same = λ a. search;
}

lights_tell : Tells SameLight
lights_tell = record {
  equal = λ a b e i. record { frame = e.frame i; red = e.red i; green = e.green i; blue = e.blue i; dx = e.dx i; dy = e.dy i; dz = e.dz i };
  same = λ a. search;
}

self_shadows_tell : Tells SameSelfShadow
self_shadows_tell = record {
  equal = λ a b e i. record { frame = e.frame i; mode = e.mode i; distance = e.distance i };
  same = λ a. search;
}

ik_states_tell : Tells SameIkState
ik_states_tell = record {
  equal = λ a b e i. record { name = e.name i; enabled = e.enabled i };
  same = λ a. search;
}

properties_tell : Tells SameProperty
properties_tell = record {
  equal = λ a b e.
      let k = (sections_tell ik_states_tell).equal a.ik_states b.ik_states e.ik_states in
      λ i. record { frame = e.frame i; visible = e.visible i; ik_states = k i };
  same = λ a. record { frame = refl; visible = refl; ik_states = (sections_tell ik_states_tell).same a.ik_states };
}

-- "The records of two takes are equal when every section has as many in both and those of the same number agree in every field"
pub same_records : (t u : Take) → (t ≡ u) ↔ SameRecords t u
same_records t u = (λ e. subst (SameRecords t) e all_same, all_equal)
  where
    all_same : SameRecords t t
    all_same = record {
      model = refl;
      bones = (sections_tell bones_tell).same t.bones;
      morphs = (sections_tell morphs_tell).same t.morphs;
      cameras = (sections_tell cameras_tell).same t.cameras;
      lights = (sections_tell lights_tell).same t.lights;
      self_shadows = (sections_tell self_shadows_tell).same t.self_shadows;
      properties = (sections_tell properties_tell).same t.properties;
    }

    all_equal : SameRecords t u → t ≡ u
    all_equal h =
        let b = (sections_tell bones_tell).equal t.bones u.bones h.bones in
        let m = (sections_tell morphs_tell).equal t.morphs u.morphs h.morphs in
        let c = (sections_tell cameras_tell).equal t.cameras u.cameras h.cameras in
        let l = (sections_tell lights_tell).equal t.lights u.lights h.lights in
        let s = (sections_tell self_shadows_tell).equal t.self_shadows u.self_shadows h.self_shadows in
        let p = (sections_tell properties_tell).equal t.properties u.properties h.properties in
        λ i. record { model = h.model i; bones = b i; morphs = m i; cameras = c i; lights = l i; self_shadows = s i; properties = p i }
