-- The steps in which a take is split: whether the parts fit, by places and lengths, and what each step leaves. proofs/ shows
-- that together they are the split. Definitions only.
use Rattle.std.specs.Prelude.{ℕ, ◌+◌, ◌*◌, ◌≡◌, Bool, ◌&&◌, List, map, length, drop, leb}
use Rattle.vmd_format.specs.Records.{Bone, Morph, bone, morph, camera, light, self_shadow}
use Rattle.vmd_format.specs.Read.{table, write_all}
use Rattle.vmd_format.specs.Take.{property}
use Rattle.vmd_format.specs.Opening.{Extent, Scan}
use Rattle.vmd_laws.specs.PlacesLaws.{frames_in}
use Rattle.vmd_format.specs.Parts.{NameTable}
use Rattle.vmd_keys.specs.Names.{names_in}
use Rattle.vmd_tables.specs.Tables.{name_table, name_indices}
use Rattle.vmd_take_parts.specs.Split.{translation, rotation, over}

-- ---- room, by lengths

unfoldable pub table_room : NameTable → ℕ → ℕ → Bool
table_room t bytes ends = leb (length t.bytes) 4294967295 && leb (length t.bytes) bytes && leb (length t.ends) ends

unfoldable pub bone_room : ℕ → ℕ → ℕ → ℕ → ℕ → ℕ → Bool
bone_room n indices frames translations rotations interpolations =
    leb n indices && leb n frames && leb (3 * n) translations && leb (4 * n) rotations && leb (64 * n) interpolations

unfoldable pub morph_room : ℕ → ℕ → ℕ → ℕ → Bool
morph_room n indices frames weights = leb n indices && leb n frames && leb n weights

unfoldable pub record_room : Scan → ℕ → ℕ → ℕ → ℕ → Bool
record_room x cameras lights self_shadows properties =
    leb (61 * x.cameras.count) cameras && leb (28 * x.lights.count) lights && leb (9 * x.self_shadows.count) self_shadows
    && leb (9 * x.properties.count + 21 * x.ik_states) properties

abbrev pub table_in : List ℕ → Extent → ℕ → NameTable
table_in s p size = name_table (names_in s p.place size p.count)

unfoldable pub parts_room : List ℕ → Scan → ℕ → ℕ → ℕ → ℕ → ℕ → ℕ → ℕ → ℕ → ℕ → ℕ → ℕ → ℕ → ℕ → ℕ → ℕ → ℕ → Bool
parts_room s x bone_bytes bone_ends morph_bytes morph_ends cameras lights self_shadows properties indices frames translations rotations interpolations morph_indices morph_frames weights =
    record_room x cameras lights self_shadows properties && bone_room x.bones.count indices frames translations rotations interpolations
    && morph_room x.morphs.count morph_indices morph_frames weights && table_room (table_in s x.bones 111) bone_bytes bone_ends
    && table_room (table_in s x.morphs 23) morph_bytes morph_ends

-- ---- what is left in the buffers, each before and after

abbrev pub bones_in : List ℕ → Extent → List Bone
bones_in s p = table bone p.count (drop p.place s)

abbrev pub morphs_in : List ℕ → Extent → List Morph
morphs_in s p = table morph p.count (drop p.place s)

pub record RecordsLeft (s : List ℕ) (x : Scan) (cameras₀ cameras lights₀ lights self_shadows₀ self_shadows properties₀ properties : List ℕ) : Type 0 where
  pub cameras_are : cameras ≡ over (write_all camera.encode (table camera x.cameras.count (drop x.cameras.place s))) cameras₀
  pub lights_are : lights ≡ over (write_all light.encode (table light x.lights.count (drop x.lights.place s))) lights₀
  pub self_shadows_are : self_shadows ≡ over (write_all self_shadow.encode (table self_shadow x.self_shadows.count (drop x.self_shadows.place s))) self_shadows₀
  pub properties_are : properties ≡ over (write_all property.write (frames_in s x.properties.count x.properties.place)) properties₀

pub record BonesLeft (l : List Bone) (names size : ℕ) (bytes₀ bytes ends₀ ends indices₀ indices frames₀ frames translations₀ translations rotations₀ rotations interpolations₀ interpolations : List ℕ) : Type 0 where
  pub names_are : names ≡ length (name_table (map (λ b. b.name) l)).ends
  pub size_is : size ≡ length (name_table (map (λ b. b.name) l)).bytes
  pub bytes_are : bytes ≡ over (name_table (map (λ b. b.name) l)).bytes bytes₀
  pub ends_are : ends ≡ over (name_table (map (λ b. b.name) l)).ends ends₀
  pub indices_are : indices ≡ over (name_indices (map (λ b. b.name) l)) indices₀
  pub frames_are : frames ≡ over (map (λ b. b.frame) l) frames₀
  pub translations_are : translations ≡ over (write_all translation l) translations₀
  pub rotations_are : rotations ≡ over (write_all rotation l) rotations₀
  pub interpolations_are : interpolations ≡ over (write_all (λ b. b.interpolation) l) interpolations₀

pub record MorphsLeft (l : List Morph) (names size : ℕ) (bytes₀ bytes ends₀ ends indices₀ indices frames₀ frames weights₀ weights : List ℕ) : Type 0 where
  pub names_are : names ≡ length (name_table (map (λ m. m.name) l)).ends
  pub size_is : size ≡ length (name_table (map (λ m. m.name) l)).bytes
  pub bytes_are : bytes ≡ over (name_table (map (λ m. m.name) l)).bytes bytes₀
  pub ends_are : ends ≡ over (name_table (map (λ m. m.name) l)).ends ends₀
  pub indices_are : indices ≡ over (name_indices (map (λ m. m.name) l)) indices₀
  pub frames_are : frames ≡ over (map (λ m. m.frame) l) frames₀
  pub weights_are : weights ≡ over (map (λ m. m.weight) l) weights₀
