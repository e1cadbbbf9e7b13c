-- Parts out of a take: 02 a), "an accepted file should yield what the builder takes". Definitions only.
use Rattle.std.specs.Prelude.{ℕ, Bool, ◌&&◌, List, [], ◌∷◌, ◌++◌, map, length, drop, leb}
use Rattle.vmd_format.specs.Refusal.{parts_do_not_fit}
use Rattle.vmd_format.specs.Answer.{Answer, declined, given, and_then, map_answer, unless}
use Rattle.vmd_format.specs.Records.{Bone, camera, light, self_shadow}
use Rattle.vmd_format.specs.Read.{Manner, write_all}
use Rattle.vmd_format.specs.Take.{Take, property, read_take}
use Rattle.vmd_format.specs.Parts.{NameTable, Parts}
use Rattle.vmd_keys.specs.Names.{bone_names_of, morph_names_of}
use Rattle.vmd_tables.specs.Tables.{name_table, name_indices}

-- ---- the parts

unfoldable pub translation : Bone → List ℕ
translation b = b.tx ∷ b.ty ∷ b.tz ∷ []

unfoldable pub rotation : Bone → List ℕ
rotation b = b.rx ∷ b.ry ∷ b.rz ∷ b.rw ∷ []

-- "Name tables hold distinct raw names in order of first appearance, and each record gets its index. Cameras, lights,
-- self-shadows and properties come as canonical records." Floats by their 32 bits.
unfoldable pub parts_of_take : Take → Parts
parts_of_take t = record {
  model = t.model;
  bone_names = name_table (bone_names_of t);
  morph_names = name_table (morph_names_of t);
  cameras = write_all camera.encode t.cameras;
  lights = write_all light.encode t.lights;
  self_shadows = write_all self_shadow.encode t.self_shadows;
  properties = write_all property.write t.properties;
  bone_name_indices = name_indices (bone_names_of t);
  bone_frames = map (λ b. b.frame) t.bones;
  bone_translations = write_all translation t.bones;
  bone_rotations = write_all rotation t.bones;
  bone_interpolations = write_all (λ b. b.interpolation) t.bones;
  morph_name_indices = name_indices (morph_names_of t);
  morph_frames = map (λ m. m.frame) t.morphs;
  morph_weights = map (λ m. m.weight) t.morphs;
}

-- ---- what is turned down

-- "a name table passes 4,294,967,295 bytes": that number itself does not
unfoldable pub table_within : NameTable → Bool
table_within t = leb (length t.bytes) 4294967295

-- a part can stand at the front of a buffer
abbrev pub has_room : List ℕ → List ℕ → Bool
has_room v l = leb (length v) (length l)

-- a table can stand at the front of these two buffers
unfoldable pub table_fits : NameTable → NameTable → Bool
table_fits t lent = table_within t && has_room t.bytes lent.bytes && has_room t.ends lent.ends

-- the parts can stand at the front of the lent buffers; the model name is none of them
unfoldable pub bones_fit : Parts → Parts → Bool
bones_fit p lent =
    has_room p.bone_name_indices lent.bone_name_indices && has_room p.bone_frames lent.bone_frames
    && has_room p.bone_translations lent.bone_translations && has_room p.bone_rotations lent.bone_rotations
    && has_room p.bone_interpolations lent.bone_interpolations

unfoldable pub morphs_fit : Parts → Parts → Bool
morphs_fit p lent =
    has_room p.morph_name_indices lent.morph_name_indices && has_room p.morph_frames lent.morph_frames
    && has_room p.morph_weights lent.morph_weights

unfoldable pub records_fit : Parts → Parts → Bool
records_fit p lent =
    has_room p.cameras lent.cameras && has_room p.lights lent.lights && has_room p.self_shadows lent.self_shadows
    && has_room p.properties lent.properties

unfoldable pub parts_fit : Parts → Parts → Bool
parts_fit p lent =
    records_fit p lent && bones_fit p lent && morphs_fit p lent && table_fits p.bone_names lent.bone_names
    && table_fits p.morph_names lent.morph_names

-- "14 a table, column or record buffer is too short or a name table passes 4,294,967,295 bytes, tested after 1 and 2"
unfoldable pub split : Manner → List ℕ → Parts → Answer Parts
split m s lent =
    and_then (read_take m s) λ t. unless (parts_fit (parts_of_take t) lent) parts_do_not_fit (given (parts_of_take t))

-- ---- what the calls answer, and what they leave

-- "The numbers of names and of name bytes in each table are returned."
pub record TableSizes : Type 0 where
  pub bone_names : ℕ
  pub bone_name_bytes : ℕ
  pub morph_names : ℕ
  pub morph_name_bytes : ℕ

unfoldable pub table_sizes : Parts → TableSizes
table_sizes p = record {
  bone_names = length p.bone_names.ends;
  bone_name_bytes = length p.bone_names.bytes;
  morph_names = length p.morph_names.ends;
  morph_name_bytes = length p.morph_names.bytes;
}

unfoldable pub split_answer : Manner → List ℕ → Parts → Answer TableSizes
split_answer m s lent = map_answer table_sizes (split m s lent)

-- "Places past those written keep their contents."
abbrev pub over : List ℕ → List ℕ → List ℕ
over v l = v ++ drop (length v) l

-- the lent buffers at exit; "nothing written" where it is refused
unfoldable pub parts_left : Parts → Answer Parts → Parts
parts_left lent (declined k) = lent
parts_left lent (given p) = record {
  model = lent.model;
  bone_names = record { bytes = over p.bone_names.bytes lent.bone_names.bytes; ends = over p.bone_names.ends lent.bone_names.ends };
  morph_names = record { bytes = over p.morph_names.bytes lent.morph_names.bytes; ends = over p.morph_names.ends lent.morph_names.ends };
  cameras = over p.cameras lent.cameras;
  lights = over p.lights lent.lights;
  self_shadows = over p.self_shadows lent.self_shadows;
  properties = over p.properties lent.properties;
  bone_name_indices = over p.bone_name_indices lent.bone_name_indices;
  bone_frames = over p.bone_frames lent.bone_frames;
  bone_translations = over p.bone_translations lent.bone_translations;
  bone_rotations = over p.bone_rotations lent.bone_rotations;
  bone_interpolations = over p.bone_interpolations lent.bone_interpolations;
  morph_name_indices = over p.morph_name_indices lent.morph_name_indices;
  morph_frames = over p.morph_frames lent.morph_frames;
  morph_weights = over p.morph_weights lent.morph_weights;
}

-- the sixteen buffers of a call, in its order; none is for the model name
abbrev pub buffers : List ℕ → List ℕ → List ℕ → List ℕ → List ℕ → List ℕ → List ℕ → List ℕ → List ℕ → List ℕ → List ℕ → List ℕ → List ℕ → List ℕ → List ℕ → List ℕ → Parts
buffers bone_bytes bone_ends morph_bytes morph_ends cameras lights self_shadows properties indices frames translations rotations interpolations morph_indices morph_frames weights = record {
  model = [];
  bone_names = record { bytes = bone_bytes; ends = bone_ends };
  morph_names = record { bytes = morph_bytes; ends = morph_ends };
  cameras = cameras;
  lights = lights;
  self_shadows = self_shadows;
  properties = properties;
  bone_name_indices = indices;
  bone_frames = frames;
  bone_translations = translations;
  bone_rotations = rotations;
  bone_interpolations = interpolations;
  morph_name_indices = morph_indices;
  morph_frames = morph_frames;
  morph_weights = weights;
}

-- the size call: the four numbers alone, 14 where a table would pass its limit
unfoldable pub split_sizes : Manner → List ℕ → Answer TableSizes
split_sizes m s =
    and_then (read_take m s) λ t.
    unless (table_within (name_table (bone_names_of t)) && table_within (name_table (morph_names_of t))) parts_do_not_fit
    (given (table_sizes (parts_of_take t)))
