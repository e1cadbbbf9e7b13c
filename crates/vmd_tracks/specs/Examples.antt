-- A take tidied, computed: names with remarks (02 k), each record kept with its own name.
use Rattle.std.specs.Prelude.{ℕ, ◌≡◌, refl, List, [], ◌∷◌, replicate}
use Rattle.vmd_format.specs.Computed.{computed}
use Rattle.vmd_format.specs.Records.{Bone, Morph}
use Rattle.vmd_format.specs.Take.{Take}
use Rattle.vmd_keys.specs.Names.{registered_if, registration_name, keep_if, select, distinct}
use Rattle.vmd_tracks.specs.Tracks.{put_if, put, put_all, lasts, track, lay, tidy_section, one_track}
use Rattle.vmd_tracks.specs.Tidy.{tidy_by, tidy}

-- a bone and a morph of a name and a frame, with v to tell them by
abbrev bone_named : List ℕ → ℕ → ℕ → Bone
bone_named n f v = record { name = n; frame = f; tx = v; ty = 12; tz = 13; rx = 14; ry = 15; rz = 16; rw = 17; interpolation = replicate 64 v }

abbrev morph_named : List ℕ → ℕ → ℕ → Morph
morph_named n f v = record { name = n; frame = f; weight = v }

-- "A", with the remarks "x" and "y", and with a CR for the line feed
abbrev plain : List ℕ
plain = 65 ∷ []

abbrev remark_x : List ℕ
remark_x = 65 ∷ 10 ∷ 120 ∷ []

abbrev remark_y : List ℕ
remark_y = 65 ∷ 10 ∷ 121 ∷ []

abbrev other : List ℕ
other = 65 ∷ 13 ∷ 120 ∷ []

abbrev take_of : List Bone → List Morph → Take
take_of b m = record { model = 77 ∷ []; bones = b; morphs = m; cameras = []; lights = []; self_shadows = []; properties = [] }

-- Bones: of frame 3 the last is remark-y's; the CR's bone is of another track, which comes second. Morphs: none and a line feed
-- are one track.
pub tidied_told :
    tidy (take_of
    (bone_named plain 3 1 ∷ bone_named other 3 2 ∷ bone_named remark_x 1 3 ∷ bone_named remark_y 3 4 ∷ bone_named other 2 5 ∷ [])
    (morph_named (10 ∷ 66 ∷ []) 7 6 ∷ morph_named remark_x 7 7 ∷ morph_named [] 7 8 ∷ morph_named (10 ∷ []) 6 9 ∷ []))
    ≡ take_of
    (bone_named remark_x 1 3 ∷ bone_named remark_y 3 4 ∷ bone_named other 2 5 ∷ bone_named other 3 2 ∷ [])
    (morph_named (10 ∷ []) 6 9 ∷ morph_named [] 7 8 ∷ morph_named remark_x 7 7 ∷ [])
unfolding computed registered_if registration_name keep_if select distinct put_if put put_all lasts track lay tidy_section one_track tidy_by tidy
tidied_told = refl
