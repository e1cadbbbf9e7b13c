-- Computed examples of numbers and texts. Assumes nothing.
use Rattle.std.specs.Prelude.{◌≡◌, refl, [], ◌∷◌}
use Rattle.vmd_text.specs.Text.{tens_if, digits, decimal, number_lines, text}

pub numbers : (decimal 0 ≡ text "0") × (decimal 10 ≡ text "10") × (decimal 2026 ≡ text "2026") × (number_lines (0 ∷ 353 ∷ []) ≡ text "0\n353\n")
unfolding tens_if digits decimal number_lines text
numbers = (refl, refl, refl, refl)

pub texts : (text "" ≡ []) × (text "aZ \n" ≡ 97 ∷ 90 ∷ 32 ∷ 10 ∷ [])
unfolding text
texts = (refl, refl)
