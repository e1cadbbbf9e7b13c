-- What tells the track of a name (02 k), computed.
use Rattle.std.specs.Prelude.{◌≡◌, refl, [], ◌∷◌}
use Rattle.vmd_keys.specs.Names.{registered_if, registration_name}

-- "A", "A" with a remark and with none after its line feed, and with two line feeds
pub remarks_told :
    (registration_name (65 ∷ []) ≡ 65 ∷ []) × (registration_name (65 ∷ 10 ∷ 120 ∷ []) ≡ 65 ∷ [])
    × (registration_name (65 ∷ 10 ∷ []) ≡ 65 ∷ []) × (registration_name (65 ∷ 10 ∷ 66 ∷ 10 ∷ 67 ∷ []) ≡ 65 ∷ [])
unfolding registration_name registered_if
remarks_told = (refl, refl, refl, refl)

-- a name that begins with a line feed is of the track of the empty name
pub nothing_told : (registration_name (10 ∷ 65 ∷ []) ≡ []) × (registration_name [] ≡ [])
unfolding registration_name registered_if
nothing_told = (refl, refl)

-- no other byte cuts a name: those beside the line feed, CR, and the line feed with its highest bit set
pub others_told : registration_name (9 ∷ 11 ∷ 13 ∷ 138 ∷ 0 ∷ 255 ∷ 10 ∷ 1 ∷ []) ≡ 9 ∷ 11 ∷ 13 ∷ 138 ∷ 0 ∷ 255 ∷ []
unfolding registration_name registered_if
others_told = refl
