-- One decode of every record kind: each byte differs from the others, so a field or byte out of its place shows.
-- The bytes count up from 1, and two bytes stand after the record; numbers are in hexadecimal, two digits a byte.
use Rattle.std.specs.Prelude.{ℕ, ◌≡◌, refl, Bool, true, false, ◌&&◌, not, [], ◌∷◌, ◌++◌, replicate, eqb, T}
use Rattle.vmd_format.specs.Records.{Property, bone, morph, camera, light, self_shadow, ik_state}
use Rattle.vmd_format.specs.Read.{Step, refused, got, whole}
use Rattle.vmd_format.specs.Take.{property}
use Rattle.vmd_format.specs.Computed.{computed, counting, fours}

-- the sizes of document 01's table
pub sizes : T (
    eqb bone.size 111
    && eqb morph.size 23
    && eqb camera.size 61
    && eqb light.size 28
    && eqb self_shadow.size 9
    && eqb property.least 9
    && eqb ik_state.size 21)
unfolding computed
sizes = tt

-- a bone
pub a_bone :
    whole bone (counting 1 113)
    ≡ got (record { name = counting 1 15; frame = 0x13121110; tx = 0x17161514; ty = 0x1b1a1918; tz = 0x1f1e1d1c; rx = 0x23222120; ry = 0x27262524; rz = 0x2b2a2928; rw = 0x2f2e2d2c; interpolation = counting 48 64 })
    (112 ∷ 113 ∷ [])
unfolding computed
a_bone = refl

-- a morph
pub a_morph :
    whole morph (counting 1 25)
    ≡ got (record { name = counting 1 15; frame = 0x13121110; weight = 0x17161514 })
    (24 ∷ 25 ∷ [])
unfolding computed
a_morph = refl

-- a camera
pub a_camera :
    whole camera (counting 1 63)
    ≡ got (record { frame = 0x04030201; distance = 0x08070605; px = 0x0c0b0a09; py = 0x100f0e0d; pz = 0x14131211; rx = 0x18171615; ry = 0x1c1b1a19; rz = 0x201f1e1d; interpolation = counting 33 24; fov = 0x3c3b3a39; perspective = false })
    (62 ∷ 63 ∷ [])
unfolding computed
a_camera = refl

-- a light
pub a_light :
    whole light (counting 1 30)
    ≡ got (record { frame = 0x04030201; red = 0x08070605; green = 0x0c0b0a09; blue = 0x100f0e0d; dx = 0x14131211; dy = 0x18171615; dz = 0x1c1b1a19 })
    (29 ∷ 30 ∷ [])
unfolding computed
a_light = refl

-- a self-shadow
pub a_self_shadow :
    whole self_shadow (counting 1 11)
    ≡ got (record { frame = 0x04030201; mode = 5; distance = 0x09080706 })
    (10 ∷ 11 ∷ [])
unfolding computed
a_self_shadow = refl

-- an IK state
pub an_ik_state :
    whole ik_state (counting 1 23)
    ≡ got (record { name = counting 1 20; enabled = true })
    (22 ∷ 23 ∷ [])
unfolding computed
an_ik_state = refl

-- a property frame with two IK states, the second switched off
pub a_property :
    property.read (counting 1 5 ++ fours (2 ∷ []) ++ counting 10 21 ++ counting 31 20 ++ (0 ∷ 51 ∷ 52 ∷ []))
    ≡ got (record { frame = 0x04030201; visible = true; ik_states = record { name = counting 10 20; enabled = true } ∷ record { name = counting 31 20; enabled = false } ∷ [] })
    (51 ∷ 52 ∷ [])
unfolding computed
a_property = refl

-- what the flag bytes of a camera, a property frame and an IK state say
abbrev perspective : ℕ → Bool
perspective b = (camera.decode (replicate 60 0 ++ (b ∷ []))).perspective

abbrev visible_in : Step Property → Bool
visible_in (refused k) = false
visible_in (got p s) = p.visible

abbrev visible : ℕ → Bool
visible b = visible_in (property.read (replicate 4 0 ++ (b ∷ replicate 4 0)))

abbrev enabled : ℕ → Bool
enabled b = (ik_state.decode (replicate 20 0 ++ (b ∷ []))).enabled

-- "Camera perspective is true when its byte is 0, false otherwise."
pub perspective_sense : T (perspective 0 && not (perspective 1) && not (perspective 2) && not (perspective 255))
unfolding computed
perspective_sense = tt

-- "Property `visible` and IK `enabled` are true when their byte is not 0."
pub flag_sense : T (
    not (visible 0) && visible 1 && visible 2 && visible 255
    && not (enabled 0) && enabled 1 && enabled 2 && enabled 255)
unfolding computed
flag_sense = tt
