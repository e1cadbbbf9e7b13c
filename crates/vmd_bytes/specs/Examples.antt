-- What a write leaves: the elements from a place on, and every other one as it was.
use Rattle.std.specs.Prelude.{◌≡◌, [], ◌∷◌, refl}
use Rattle.vmd_bytes.specs.Slices.{splice, run}

pub written :
    (splice (1 ∷ 2 ∷ 3 ∷ 4 ∷ 5 ∷ []) 1 (7 ∷ 8 ∷ []) ≡ 1 ∷ 7 ∷ 8 ∷ 4 ∷ 5 ∷ []) × (splice (1 ∷ 2 ∷ []) 2 [] ≡ 1 ∷ 2 ∷ [])
    × (run (1 ∷ 2 ∷ 3 ∷ 4 ∷ []) 1 2 ≡ 2 ∷ 3 ∷ [])
unfolding splice run
written = (refl, refl, refl)
