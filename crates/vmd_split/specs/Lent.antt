-- What the lent buffers mean in the terms of the definitions: whether parts fit them, what is left in them, and that they are
-- still those that were lent. Definitions only.
use Rattle.std.specs.Prelude.{ℕ, ◌≡◌, Bool, List, length}
use Rattle.vmd_format.specs.Records.{Bone, Morph}
use Rattle.vmd_format.specs.Opening.{Scan}
use Rattle.vmd_format.specs.Parts.{Parts}
use Rattle.vmd_take_parts.specs.Split.{buffers}
use Rattle.vmd_split.specs.declared.VmdLentBones.{VmdLentBones}
use Rattle.vmd_split.specs.declared.VmdLentMorphs.{VmdLentMorphs}
use Rattle.vmd_split.specs.declared.VmdLentRecords.{VmdLentRecords}
use Rattle.vmd_split.specs.Stages.{table_room, table_in, bone_room, morph_room, record_room, parts_room, RecordsLeft, BonesLeft, MorphsLeft}

-- the sixteen buffers
abbrev pub parts_are : VmdLentBones → VmdLentMorphs → VmdLentRecords → Parts
parts_are b m r = buffers b.name_bytes.now b.name_ends.now m.name_bytes.now m.name_ends.now
    r.cameras.now r.lights.now r.self_shadows.now r.properties.now
    b.name_indices.now b.frames.now b.translations_xyz.now b.rotations_xyzw.now
    b.interpolations.now m.name_indices.now m.frames.now m.weights.now

-- ---- room, by their lengths

abbrev pub bone_names_hold : List ℕ → Scan → VmdLentBones → Bool
bone_names_hold s x l = table_room (table_in s x.bones 111) (length l.name_bytes.now) (length l.name_ends.now)

abbrev pub morph_names_hold : List ℕ → Scan → VmdLentMorphs → Bool
morph_names_hold s x l = table_room (table_in s x.morphs 23) (length l.name_bytes.now) (length l.name_ends.now)

abbrev pub bones_hold : ℕ → VmdLentBones → Bool
bones_hold n l =
    bone_room n (length l.name_indices.now) (length l.frames.now) (length l.translations_xyz.now) (length l.rotations_xyzw.now) (length l.interpolations.now)

abbrev pub morphs_hold : ℕ → VmdLentMorphs → Bool
morphs_hold n l = morph_room n (length l.name_indices.now) (length l.frames.now) (length l.weights.now)

abbrev pub records_hold : Scan → VmdLentRecords → Bool
records_hold x l = record_room x (length l.cameras.now) (length l.lights.now) (length l.self_shadows.now) (length l.properties.now)

abbrev pub parts_hold : List ℕ → Scan → VmdLentBones → VmdLentMorphs → VmdLentRecords → Bool
parts_hold s x b m r =
    parts_room s x (length b.name_bytes.now) (length b.name_ends.now) (length m.name_bytes.now) (length m.name_ends.now)
    (length r.cameras.now) (length r.lights.now) (length r.self_shadows.now) (length r.properties.now)
    (length b.name_indices.now) (length b.frames.now) (length b.translations_xyz.now) (length b.rotations_xyzw.now)
    (length b.interpolations.now) (length m.name_indices.now) (length m.frames.now) (length m.weights.now)

-- ---- what is left in them, before and after

abbrev pub RecordsWritten : List ℕ → Scan → VmdLentRecords → VmdLentRecords → Type 0
RecordsWritten s x l k =
    RecordsLeft s x l.cameras.now k.cameras.now l.lights.now k.lights.now l.self_shadows.now k.self_shadows.now l.properties.now k.properties.now

abbrev pub BonesWritten : List Bone → ℕ → ℕ → VmdLentBones → VmdLentBones → Type 0
BonesWritten b names size l k =
    BonesLeft b names size l.name_bytes.now k.name_bytes.now l.name_ends.now k.name_ends.now l.name_indices.now k.name_indices.now
    l.frames.now k.frames.now l.translations_xyz.now k.translations_xyz.now l.rotations_xyzw.now k.rotations_xyzw.now
    l.interpolations.now k.interpolations.now

abbrev pub MorphsWritten : List Morph → ℕ → ℕ → VmdLentMorphs → VmdLentMorphs → Type 0
MorphsWritten m names size l k =
    MorphsLeft m names size l.name_bytes.now k.name_bytes.now l.name_ends.now k.name_ends.now l.name_indices.now k.name_indices.now
    l.frames.now k.frames.now l.weights.now k.weights.now

-- ---- the same buffers

abbrev pub SameBones : VmdLentBones → VmdLentBones → Type 0
SameBones l k =
    (k.name_bytes.ghost_name ≡ l.name_bytes.ghost_name) × (k.name_ends.ghost_name ≡ l.name_ends.ghost_name) × (k.name_indices.ghost_name ≡ l.name_indices.ghost_name) × (k.frames.ghost_name ≡ l.frames.ghost_name)
    × (k.translations_xyz.ghost_name ≡ l.translations_xyz.ghost_name) × (k.rotations_xyzw.ghost_name ≡ l.rotations_xyzw.ghost_name)
    × (k.interpolations.ghost_name ≡ l.interpolations.ghost_name)

abbrev pub SameMorphs : VmdLentMorphs → VmdLentMorphs → Type 0
SameMorphs l k =
    (k.name_bytes.ghost_name ≡ l.name_bytes.ghost_name) × (k.name_ends.ghost_name ≡ l.name_ends.ghost_name) × (k.name_indices.ghost_name ≡ l.name_indices.ghost_name) × (k.frames.ghost_name ≡ l.frames.ghost_name)
    × (k.weights.ghost_name ≡ l.weights.ghost_name)

abbrev pub SameRecords : VmdLentRecords → VmdLentRecords → Type 0
SameRecords l k =
    (k.cameras.ghost_name ≡ l.cameras.ghost_name) × (k.lights.ghost_name ≡ l.lights.ghost_name)
    × (k.self_shadows.ghost_name ≡ l.self_shadows.ghost_name) × (k.properties.ghost_name ≡ l.properties.ghost_name)
