-- Building from parts: document 01, "Building" and the order of its refusals. Definitions only.
use Rattle.std.specs.Prelude.{ℕ, zero, suc, ◌+◌, ◌*◌, ◌-◌, ◌/◌, ◌%◌, Bool, true, false, ◌&&◌, not, List, [], ◌∷◌, map, length, get_or, take, drop, leb, ltb, eqb}
use Rattle.vmd_format.specs.Bytes.{before_zero}
use Rattle.vmd_format.specs.Refusal.{Refusal, parts_not_whole, name_unfit, name_not_good, not_finite, self_shadow_unfit, columns_disagree, count_too_large, name_index_too_large}
use Rattle.vmd_format.specs.Answer.{Answer, declined, given}
use Rattle.vmd_format.specs.Layout.{Layout}
use Rattle.vmd_format.specs.Records.{Bone, Morph, Camera, Light, SelfShadow, IkState, Property, camera, light, self_shadow}
use Rattle.vmd_format.specs.Read.{Step, refused, got, Reader, bind, table}
use Rattle.vmd_format.specs.Take.{Take, property, write_take}
use Rattle.vmd_format.specs.Names.{good}

-- "bone and morph name tables (bytes, and a u32 end position per name ..)"
pub record NameTable : Type 0 where
  pub bytes : List ℕ
  pub ends : List ℕ

-- "a model name; bone and morph name tables; cameras, lights, self-shadows and properties as back-to-back records in the
-- layouts above; and the columns of `VmdPartsInput`"; floats by their 32 bits
pub record Parts : Type 0 where
  pub model : List ℕ
  pub bone_names : NameTable
  pub morph_names : NameTable
  pub cameras : List ℕ
  pub lights : List ℕ
  pub self_shadows : List ℕ
  pub properties : List ℕ
  pub bone_name_indices : List ℕ
  pub bone_frames : List ℕ
  pub bone_translations : List ℕ
  pub bone_rotations : List ℕ
  pub bone_interpolations : List ℕ
  pub morph_name_indices : List ℕ
  pub morph_frames : List ℕ
  pub morph_weights : List ℕ

-- ---- what the parts mean

-- the names of a table, from this position of its bytes on
unfoldable pub names_from : ℕ → List ℕ → List ℕ → List (List ℕ)
names_from at [] s = []
names_from at (e ∷ l) s = take (e - at) (drop at s) ∷ names_from e l s

unfoldable pub names_of : NameTable → List (List ℕ)
names_of t = names_from 0 t.ends t.bytes

unfoldable pub records_of : {A : Type 0} → Layout A → List ℕ → List A
records_of K s = table K (length s / K.size) s

-- Values read one after another until the bytes are at their end. Each takes some, so as many as there are bytes is enough.
unfoldable pub at_end : {A : Type 0} → Reader (List A) → Reader (List A)
at_end more [] = got [] []
at_end more (b ∷ s) = more (b ∷ s)

unfoldable pub until_end : {A : Type 0} → Reader A → ℕ → Reader (List A)
until_end r zero s = at_end (λ t. refused parts_not_whole) s
until_end r (suc n) s = at_end (λ t. bind (r t) (λ a u. bind (until_end r n u) (λ l v. got (a ∷ l) v))) s

unfoldable pub frames : List ℕ → Step (List Property)
frames s = until_end property.read (length s) s

unfoldable pub frames_or_none : Step (List Property) → List Property
frames_or_none (refused k) = []
frames_or_none (got l s) = l

unfoldable pub properties_of : List ℕ → List Property
properties_of s = frames_or_none (frames s)

-- n numbers from i on
unfoldable pub upto : ℕ → ℕ → List ℕ
upto i zero = []
upto i (suc n) = i ∷ upto (suc i) n

unfoldable pub bone_at : Parts → ℕ → Bone
bone_at p i = record {
  name = get_or (names_of p.bone_names) (get_or p.bone_name_indices i 0) [];
  frame = get_or p.bone_frames i 0;
  tx = get_or p.bone_translations (3 * i) 0;
  ty = get_or p.bone_translations (3 * i + 1) 0;
  tz = get_or p.bone_translations (3 * i + 2) 0;
  rx = get_or p.bone_rotations (4 * i) 0;
  ry = get_or p.bone_rotations (4 * i + 1) 0;
  rz = get_or p.bone_rotations (4 * i + 2) 0;
  rw = get_or p.bone_rotations (4 * i + 3) 0;
  interpolation = take 64 (drop (64 * i) p.bone_interpolations);
}

unfoldable pub morph_at : Parts → ℕ → Morph
morph_at p i = record {
  name = get_or (names_of p.morph_names) (get_or p.morph_name_indices i 0) [];
  frame = get_or p.morph_frames i 0;
  weight = get_or p.morph_weights i 0;
}

unfoldable pub take_of_parts : Parts → Take
take_of_parts p = record {
  model = p.model;
  bones = map (bone_at p) (upto 0 (length p.bone_name_indices));
  morphs = map (morph_at p) (upto 0 (length p.morph_name_indices));
  cameras = records_of camera p.cameras;
  lights = records_of light p.lights;
  self_shadows = records_of self_shadow p.self_shadows;
  properties = properties_of p.properties;
}

-- ---- what is turned down

pub data Check : Type 0 where
  passes : Check
  fails : Refusal → Check

-- one check after another: the first that fails gives the refusal
infixr 20 ◌next◌
unfoldable pub ◌next◌ : Check → Check → Check
passes next c = c
(fails k) next c = fails k

unfoldable pub need : Bool → Refusal → Check
need true k = passes
need false k = fails k

unfoldable pub each : {A : Type 0} → (A → Check) → List A → Check
each f [] = passes
each f (a ∷ l) = f a next each f l

-- "never falling, the last equal to the byte length; with no names the bytes are empty"
unfoldable pub ends_right : ℕ → List ℕ → ℕ → Bool
ends_right at [] n = eqb at n
ends_right at (e ∷ l) n = leb at e && ends_right e l n

unfoldable pub table_right : NameTable → Bool
table_right t = ends_right 0 t.ends (length t.bytes)

unfoldable pub no_bytes_over : {A : Type 0} → Layout A → List ℕ → Bool
no_bytes_over K s = eqb (length s % K.size) 0

unfoldable pub is_got : {A : Type 0} → Step A → Bool
is_got (refused k) = false
is_got (got a s) = true

-- "name table ends wrong, record bytes no whole number of records, properties cut or with bytes over: 5"
unfoldable pub whole_parts : Parts → Check
whole_parts p =
    need (table_right p.bone_names && table_right p.morph_names && no_bytes_over camera p.cameras
    && no_bytes_over light p.lights && no_bytes_over self_shadow p.self_shadows && is_got (frames p.properties))
    parts_not_whole

-- "model name over 20 bytes, table name over 15, or a zero byte in one: 6"; "name bytes not good: 7"; "each 6, then 7"
unfoldable pub name_check : ℕ → List ℕ → Check
name_check width s =
    need (leb (length s) width && eqb (length (before_zero s)) (length s)) name_unfit
    next need (good s) name_not_good

-- a float is finite when its exponent's eight bits are not all set
unfoldable pub finite : ℕ → Bool
finite n = not (eqb (n / 8388608 % 256) 255)

unfoldable pub all_finite : List ℕ → Bool
all_finite [] = true
all_finite (n ∷ l) = finite n && all_finite l

-- "camera, light, bone or morph float not finite: 8"
unfoldable pub camera_check : Camera → Check
camera_check c =
    need (finite c.distance && finite c.px && finite c.py && finite c.pz && finite c.rx && finite c.ry && finite c.rz) not_finite

unfoldable pub light_check : Light → Check
light_check l =
    need (finite l.red && finite l.green && finite l.blue && finite l.dx && finite l.dy && finite l.dz) not_finite

-- "self-shadow distance not finite, or mode above 2: 9"
unfoldable pub self_shadow_check : SelfShadow → Check
self_shadow_check s = need (finite s.distance && leb s.mode 2) self_shadow_unfit

-- "IK names (7)"
unfoldable pub ik_check : IkState → Check
ik_check k = need (good k.name) name_not_good

unfoldable pub property_check : Property → Check
property_check p = each ik_check p.ik_states

-- "bone or morph column lengths disagree: 10"
unfoldable pub columns_check : Parts → Check
columns_check p =
    let n = length p.bone_name_indices in
    need (eqb (length p.bone_frames) n && eqb (length p.bone_translations) (3 * n) && eqb (length p.bone_rotations) (4 * n)
    && eqb (length p.bone_interpolations) (64 * n)
    && eqb (length p.morph_frames) (length p.morph_name_indices) && eqb (length p.morph_weights) (length p.morph_name_indices))
    columns_disagree

-- "a section count above 4,294,967,295: 11"
unfoldable pub counts_check : Parts → Check
counts_check p =
    let t = take_of_parts p in
    need (leb (length p.bone_name_indices) 4294967295 && leb (length p.morph_name_indices) 4294967295
    && leb (length t.cameras) 4294967295 && leb (length t.lights) 4294967295
    && leb (length t.self_shadows) 4294967295 && leb (length t.properties) 4294967295)
    count_too_large

-- "bones in turn (12, then 8)": "name index at or above the table's length: 12"
unfoldable pub bone_check : Parts → ℕ → Check
bone_check p i =
    need (ltb (get_or p.bone_name_indices i 0) (length p.bone_names.ends)) name_index_too_large
    next need (all_finite (take 3 (drop (3 * i) p.bone_translations)) && all_finite (take 4 (drop (4 * i) p.bone_rotations))) not_finite

-- "morphs likewise"
unfoldable pub morph_check : Parts → ℕ → Check
morph_check p i =
    need (ltb (get_or p.morph_name_indices i 0) (length p.morph_names.ends)) name_index_too_large
    next need (finite (get_or p.morph_weights i 0)) not_finite

-- "Building: 5; model name, bone names, morph names (each 6, then 7); cameras, lights, self-shadows, IK names (7); 10; 11;
-- bones in turn (12, then 8); morphs likewise; 13." Name by name, as the Rust goes.
unfoldable pub parts_check : Parts → Check
parts_check p =
    whole_parts p
    next name_check 20 p.model
    next each (name_check 15) (names_of p.bone_names)
    next each (name_check 15) (names_of p.morph_names)
    next each camera_check (records_of camera p.cameras)
    next each light_check (records_of light p.lights)
    next each self_shadow_check (records_of self_shadow p.self_shadows)
    next each property_check (properties_of p.properties)
    next columns_check p
    next counts_check p
    next each (bone_check p) (upto 0 (length p.bone_name_indices))
    next each (morph_check p) (upto 0 (length p.morph_name_indices))

unfoldable pub built : Check → Take → Answer (List ℕ)
built passes t = given (write_take t)
built (fails k) t = declined k

-- "It writes the canonical file."
unfoldable pub build : Parts → Answer (List ℕ)
build p = built (parts_check p) (take_of_parts p)
