-- What writing meets: the columns as the checks let them through. Definitions only.
use Rattle.std.specs.Prelude.{ℕ, ◌+◌, ◌*◌, ◌≤◌, ◌≡◌, true, List, [], ◌++◌, length, get_or, take, drop}
use Rattle.vmd_format.specs.Bytes.{u32_bytes, padded}
use Rattle.vmd_format.specs.Read.{write_all}
use Rattle.vmd_format.specs.Records.{Bone, Morph}
use Rattle.vmd_format.specs.Parts.{NameTable, passes, each, all_finite, names_of, frames, upto, table_right, name_check}
use Rattle.vmd_check_columns.specs.Stages.{bone_right, morph_right}

-- the floats and the interpolation bytes of the bone at an index are there, and its floats are finite
pub record BoneThere (translations rotations interpolations : List ℕ) (i : ℕ) : Type 0 where
  pub translation : 3 * i + 3 ≤ length translations
  pub rotation : 4 * i + 4 ≤ length rotations
  pub interpolation : 64 * i + 64 ≤ length interpolations
  pub translation_finite : all_finite (take 3 (drop (3 * i) translations)) ≡ true
  pub rotation_finite : all_finite (take 4 (drop (4 * i) rotations)) ≡ true

unfoldable pub bone_bytes : List ℕ → ℕ → List ℕ → List ℕ → List ℕ → ℕ → List ℕ
bone_bytes name frame translations rotations interpolations i =
    padded 15 name ++ (u32_bytes frame ++ (write_all u32_bytes (take 3 (drop (3 * i) translations))
    ++ (write_all u32_bytes (take 4 (drop (4 * i) rotations)) ++ take 64 (drop (64 * i) interpolations))))

-- the columns of bones as the checks let them through, and the bone at an index
pub record BonesFit (t : NameTable) (indices frames translations rotations interpolations : List ℕ) : Type 0 where
  pub table : table_right t ≡ true
  pub named : each (name_check 15) (names_of t) ≡ passes
  pub framed : length frames ≡ length indices
  pub translated : length translations ≡ 3 * length indices
  pub rotated : length rotations ≡ 4 * length indices
  pub interpolated : length interpolations ≡ 64 * length indices
  pub right : each (bone_right indices (length t.ends) translations rotations) (upto 0 (length indices)) ≡ passes

unfoldable pub bone_of : NameTable → List ℕ → List ℕ → List ℕ → List ℕ → List ℕ → ℕ → Bone
bone_of t indices frames translations rotations interpolations i = record {
  name = get_or (names_of t) (get_or indices i 0) [];
  frame = get_or frames i 0;
  tx = get_or translations (3 * i) 0;
  ty = get_or translations (3 * i + 1) 0;
  tz = get_or translations (3 * i + 2) 0;
  rx = get_or rotations (4 * i) 0;
  ry = get_or rotations (4 * i + 1) 0;
  rz = get_or rotations (4 * i + 2) 0;
  rw = get_or rotations (4 * i + 3) 0;
  interpolation = take 64 (drop (64 * i) interpolations);
}

-- the same of morphs
pub record MorphsFit (t : NameTable) (indices frames weights : List ℕ) : Type 0 where
  pub table : table_right t ≡ true
  pub named : each (name_check 15) (names_of t) ≡ passes
  pub framed : length frames ≡ length indices
  pub weighed : length weights ≡ length indices
  pub right : each (morph_right indices (length t.ends) weights) (upto 0 (length indices)) ≡ passes

unfoldable pub morph_of : NameTable → List ℕ → List ℕ → List ℕ → ℕ → Morph
morph_of t indices frames weights i = record {
  name = get_or (names_of t) (get_or indices i 0) [];
  frame = get_or frames i 0;
  weight = get_or weights i 0;
}
