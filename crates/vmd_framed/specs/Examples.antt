-- An excerpt of a take, computed: in every section a record at each end of the frames and one beyond each.
use Rattle.std.specs.Prelude.{◌≡◌, refl, true, false, [], ◌∷◌, replicate, ℕ}
use Rattle.vmd_format.specs.Computed.{computed, bone_said, morph_said, light_said, shadow_said, ik_said}
use Rattle.vmd_format.specs.Records.{Camera}
use Rattle.vmd_format.specs.Take.{Take}
use Rattle.vmd_keys.specs.Names.{keep_if, select}
use Rattle.vmd_framed.specs.Excerpt.{bone_framed, morph_framed, camera_framed, light_framed, self_shadow_framed, property_framed, moved, excerpt_section, excerpt}

abbrev camera_said : ℕ → ℕ → Camera
camera_said f v = record { frame = f; distance = v; px = 22; py = 23; pz = 24; rx = 25; ry = 26; rz = 27; interpolation = replicate 24 v; fov = 28; perspective = true }

abbrev dance : Take
dance = record {
  model = 77 ∷ [];
  bones = bone_said 65 7 ∷ bone_said 66 4 ∷ bone_said 67 5 ∷ bone_said 68 8 ∷ [];
  morphs = morph_said 69 8 ∷ morph_said 70 5 ∷ morph_said 71 7 ∷ morph_said 72 4 ∷ [];
  cameras = camera_said 4 1 ∷ camera_said 5 2 ∷ camera_said 7 3 ∷ camera_said 8 4 ∷ [];
  lights = light_said 8 ∷ light_said 7 ∷ light_said 5 ∷ light_said 4 ∷ [];
  self_shadows = shadow_said 5 1 ∷ shadow_said 4 2 ∷ shadow_said 8 3 ∷ shadow_said 7 4 ∷ [];
  properties =
      record { frame = 4; visible = true; ik_states = ik_said 73 true ∷ [] }
      ∷ record { frame = 7; visible = false; ik_states = ik_said 74 false ∷ ik_said 75 true ∷ [] }
      ∷ record { frame = 8; visible = true; ik_states = [] }
      ∷ record { frame = 5; visible = true; ik_states = ik_said 76 false ∷ [] }
      ∷ [];
}

-- frames 5 to 7, the first of them now 0
pub excerpt_told :
    excerpt 5 7 dance
    ≡ record {
      model = 77 ∷ [];
      bones = bone_said 65 2 ∷ bone_said 67 0 ∷ [];
      morphs = morph_said 70 0 ∷ morph_said 71 2 ∷ [];
      cameras = camera_said 0 2 ∷ camera_said 2 3 ∷ [];
      lights = light_said 2 ∷ light_said 0 ∷ [];
      self_shadows = shadow_said 0 1 ∷ shadow_said 2 4 ∷ [];
      properties =
          record { frame = 2; visible = false; ik_states = ik_said 74 false ∷ ik_said 75 true ∷ [] }
          ∷ record { frame = 0; visible = true; ik_states = ik_said 76 false ∷ [] }
          ∷ [];
    }
unfolding computed keep_if select bone_framed morph_framed camera_framed light_framed self_shadow_framed property_framed moved excerpt_section excerpt
excerpt_told = refl
