-- The sections of a file in two runs of bytes, as its parts are compared with them. Definitions only.
use Rattle.std.specs.Prelude.{ℕ, List, ◌++◌}
use Rattle.vmd_format.specs.Records.{bone, morph, camera, light, self_shadow}
use Rattle.vmd_format.specs.Opening.{Scan}
use Rattle.vmd_form.specs.Laying.{section_bytes, frames_bytes}

-- the first three sections, and the others
unfoldable pub front_bytes : List ℕ → Scan → List ℕ
front_bytes s x = section_bytes bone s x.bones ++ (section_bytes morph s x.morphs ++ section_bytes camera s x.cameras)

unfoldable pub back_bytes : List ℕ → Scan → List ℕ
back_bytes s x = section_bytes light s x.lights ++ (section_bytes self_shadow s x.self_shadows ++ frames_bytes s x.properties)
