-- The steps in which columns are checked. vmd_checks shows that together all steps are the format's checks. Definitions only.
use Rattle.std.specs.Prelude.{ℕ, ◌*◌, Bool, ◌&&◌, List, get_or, take, drop, leb, ltb, eqb}
use Rattle.vmd_format.specs.Refusal.{not_finite, columns_disagree, count_too_large, name_index_too_large}
use Rattle.vmd_format.specs.Parts.{Check, ◌next◌, need, finite, all_finite, frames}

unfoldable pub bone_columns : ℕ → ℕ → ℕ → ℕ → ℕ → Bool
bone_columns n frames translations rotations interpolations =
    eqb frames n && eqb translations (3 * n) && eqb rotations (4 * n) && eqb interpolations (64 * n)

unfoldable pub morph_columns : ℕ → ℕ → ℕ → Bool
morph_columns n frames weights = eqb frames n && eqb weights n

unfoldable pub columns_right : ℕ → ℕ → ℕ → ℕ → ℕ → ℕ → ℕ → ℕ → Check
columns_right n frames translations rotations interpolations m morph_frames weights =
    need (bone_columns n frames translations rotations interpolations && morph_columns m morph_frames weights) columns_disagree

unfoldable pub counts_right : ℕ → ℕ → ℕ → ℕ → ℕ → ℕ → Check
counts_right b m c l s p =
    need (leb b 4294967295 && leb m 4294967295 && leb c 4294967295 && leb l 4294967295 && leb s 4294967295 && leb p 4294967295) count_too_large

-- a bone's index among so many names, and then its floats
unfoldable pub bone_right : List ℕ → ℕ → List ℕ → List ℕ → ℕ → Check
bone_right indices names translations rotations i =
    need (ltb (get_or indices i 0) names) name_index_too_large
    next need (all_finite (take 3 (drop (3 * i) translations)) && all_finite (take 4 (drop (4 * i) rotations))) not_finite

unfoldable pub morph_right : List ℕ → ℕ → List ℕ → ℕ → Check
morph_right indices names weights i =
    need (ltb (get_or indices i 0) names) name_index_too_large
    next need (finite (get_or weights i 0)) not_finite
