-- What the writers of a section leave in its buffers, as the take's bones and morphs. Assumes nothing.
use Prim.Native.Nat.{ℕ, ◌+◌, ◌≤◌}
use mathlib.Core.Path.{◌≡◌, sym, ◌∙◌}
use mathlib.Core.List.{List}
use native.Mathlib.Omega.{arith}
use lib.ListN.{length, drop}
use Rattle.vmd_format.specs.Read.{table}
use Rattle.vmd_format.specs.Records.{bone, morph}
use Rattle.vmd_format.specs.Parts.{NameTable}
use Rattle.vmd_bytes.specs.Slices.{splice, run}
use Rattle.vmd_keys.specs.Names.{names_in, distinct}
use Rattle.vmd_keys.specs.NameLaws.{bone_names, morph_names}
use Rattle.vmd_tables.specs.Tables.{name_table}
use Rattle.vmd_tables.proofs.TableMeaning.{table_count}
use Rattle.vmd_tables.specs.Leading.{Beyond, Numbered}
use Rattle.vmd_tables.proofs.Numbering.{front_beyond}
use Rattle.vmd_columns.specs.Columns.{numbers_at, column}
use Rattle.vmd_columns.specs.ColumnLaws.{bone_frames, bone_translations, bone_rotations, bone_interpolations, morph_frames, morph_weights, numbers_column_length}
use Rattle.vmd_take_parts.specs.Split.{translation, rotation, over}
use Rattle.vmd_take_parts.proofs.Fitting.{TableFits}
use Rattle.vmd_split.specs.Stages.{BonesLeft, MorphsLeft}
use Rattle.vmd_split.proofs.Room.{front}

-- ---- room for the table's ends

pub names_fit : (s : List ℕ) (at size n : ℕ) {lent : NameTable} → TableFits (name_table (names_in s at size n)) lent → length (distinct (names_in s at size n)) ≤ length lent.ends
names_fit s at size n h = omega (arith, h.ends, table_count (names_in s at size n))

-- ---- a column over its work space

module _ (s : List ℕ) (at n : ℕ) where
  frames_left : (size offset : ℕ) {l mid out : List ℕ} → Beyond n l mid → out ≡ splice mid 0 (column (numbers_at s 1) (at + offset) size n)
      → out ≡ over (column (numbers_at s 1) (at + offset) size n) l
  frames_left size offset {l} {mid} b e =
      let v = column (numbers_at s 1) (at + offset) size n in
      e ∙ front_beyond n l mid v b (numbers_column_length s 1 (at + offset) size n ∙ omega arith) ∙ front l v

  -- ---- bones

  pub bones_left : {names size : ℕ} {bytes₀ bytes ends₀ ends indices₀ indices frames₀ mid frames translations₀ translations rotations₀ rotations interpolations₀ interpolations : List ℕ}
      → Numbered s at 111 n names size bytes₀ bytes ends₀ ends indices₀ indices → Beyond n frames₀ mid
      → frames ≡ splice mid 0 (column (numbers_at s 1) (at + 15) 111 n)
      → translations ≡ splice translations₀ 0 (column (numbers_at s 3) (at + 19) 111 n)
      → rotations ≡ splice rotations₀ 0 (column (numbers_at s 4) (at + 31) 111 n)
      → interpolations ≡ splice interpolations₀ 0 (column (λ p. run s p 64) (at + 47) 111 n)
      → BonesLeft (table bone n (drop at s)) names size bytes₀ bytes ends₀ ends indices₀ indices frames₀ frames translations₀ translations rotations₀ rotations interpolations₀ interpolations
  unfolding translation rotation
  bones_left {bytes₀ = bytes₀} {ends₀ = ends₀} {indices₀ = indices₀} {translations₀ = translations₀} {rotations₀ = rotations₀} {interpolations₀ = interpolations₀} t w f g h k =
      let e = bone_names s at n in
      record {
        names_are = rw e (t.names_are ∙ sym (table_count (names_in s at 111 n)));
        size_is = rw e t.bytes_are;
        bytes_are = rw e (t.in_bytes ∙ front bytes₀ _);
        ends_are = rw e (t.in_ends ∙ front ends₀ _);
        indices_are = rw e (t.in_indices ∙ front indices₀ _);
        frames_are = rw (bone_frames s n at) (frames_left 111 15 w f);
        translations_are = rw (bone_translations s n at) (g ∙ front translations₀ _);
        rotations_are = rw (bone_rotations s n at) (h ∙ front rotations₀ _);
        interpolations_are = rw (bone_interpolations s n at) (k ∙ front interpolations₀ _);
      }

  -- ---- morphs

  pub morphs_left : {names size : ℕ} {bytes₀ bytes ends₀ ends indices₀ indices frames₀ mid frames weights₀ weights : List ℕ}
      → Numbered s at 23 n names size bytes₀ bytes ends₀ ends indices₀ indices → Beyond n frames₀ mid
      → frames ≡ splice mid 0 (column (numbers_at s 1) (at + 15) 23 n)
      → weights ≡ splice weights₀ 0 (column (numbers_at s 1) (at + 19) 23 n)
      → MorphsLeft (table morph n (drop at s)) names size bytes₀ bytes ends₀ ends indices₀ indices frames₀ frames weights₀ weights
  morphs_left {bytes₀ = bytes₀} {ends₀ = ends₀} {indices₀ = indices₀} {weights₀ = weights₀} t w f g =
      let e = morph_names s at n in
      record {
        names_are = rw e (t.names_are ∙ sym (table_count (names_in s at 23 n)));
        size_is = rw e t.bytes_are;
        bytes_are = rw e (t.in_bytes ∙ front bytes₀ _);
        ends_are = rw e (t.in_ends ∙ front ends₀ _);
        indices_are = rw e (t.in_indices ∙ front indices₀ _);
        frames_are = rw (morph_frames s n at) (frames_left 23 15 w f);
        weights_are = rw (morph_weights s n at) (g ∙ front weights₀ _);
      }
