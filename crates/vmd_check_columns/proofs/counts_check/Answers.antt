-- `vmd_check_columns::counts_check` meets its contract. Assumes nothing.
use mathlib.Core.Path.{◌≡◌, refl, ap, ◌∙◌}
use mathlib.Core.Bool.{Bool, true, false, ◌&&◌, and_assoc}
use mathlib.Core.List.{[], ◌∷◌}
use Rattle.vmd_format.specs.Refusal.{count_too_large}
use Rattle.vmd_format.specs.Parts.{need}
use Rattle.vmd_check_columns.specs.Stages.{counts_right}
use Rattle.vmd_check_columns.proofs.Columns.{all_small}
use Rattle.vmd_check_columns.proofs.counts_check.Goals as goal

last : (b : Bool) → (b && true) ≡ b
last true = refl
last false = refl

pub returns : goal.returns
unfolding counts_right
returns c =
    let a = c.args in
    c.need.ensures ∙ ap (λ b. need b count_too_large)
    (all_small 4294967295 (a.bones ∷ a.morphs ∷ a.cameras ∷ a.lights ∷ a.self_shadows ∷ a.properties ∷ []) c.all_fit.ensures
    ∙ simp (and_assoc, last))
