-- The steps in which the parts are checked. proofs/ shows that together they are the format's checks. Definitions only.
use Rattle.std.specs.Prelude.{ℕ, Bool, ◌&&◌, List, length}
use Rattle.vmd_format.specs.Records.{camera, light, self_shadow}
use Rattle.vmd_format.specs.Parts.{NameTable, Check, ◌next◌, each, names_of, records_of, frames, properties_of, upto, table_right, no_bytes_over, is_got, name_check, camera_check, light_check, self_shadow_check, property_check}
use Rattle.vmd_check_columns.specs.Stages.{columns_right, counts_right, bone_right, morph_right}

unfoldable pub all_whole : NameTable → NameTable → List ℕ → List ℕ → List ℕ → List ℕ → Bool
all_whole t u c l s p =
    table_right t && (table_right u && (no_bytes_over camera c && (no_bytes_over light l && (no_bytes_over self_shadow s && is_got (frames p)))))

unfoldable pub names_right : List ℕ → NameTable → NameTable → Check
names_right m t u = name_check 20 m next each (name_check 15) (names_of t) next each (name_check 15) (names_of u)

unfoldable pub records_right : List ℕ → List ℕ → List ℕ → List ℕ → Check
records_right c l s p =
    each camera_check (records_of camera c) next each light_check (records_of light l) next each self_shadow_check (records_of self_shadow s)
    next each property_check (properties_of p)

unfoldable pub values_right : ℕ → List ℕ → List ℕ → List ℕ → ℕ → List ℕ → List ℕ → Check
values_right names indices translations rotations morph_names morph_indices weights =
    each (bone_right indices names translations rotations) (upto 0 (length indices))
    next each (morph_right morph_indices morph_names weights) (upto 0 (length morph_indices))

-- the columns' lengths, the counts and then the values
unfoldable pub all_columns : ℕ → ℕ → ℕ → ℕ → ℕ → ℕ → List ℕ → List ℕ → List ℕ → List ℕ → List ℕ → List ℕ → List ℕ → List ℕ → Check
all_columns cameras lights self_shadows properties bone_names morph_names indices frames translations rotations interpolations morph_indices morph_frames weights =
    columns_right (length indices) (length frames) (length translations) (length rotations) (length interpolations) (length morph_indices) (length morph_frames) (length weights)
    next counts_right (length indices) (length morph_indices) cameras lights self_shadows properties
    next values_right bone_names indices translations rotations morph_names morph_indices weights
