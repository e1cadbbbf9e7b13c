-- `vmd_export::joined_model` meets its contract. Assumes nothing.
use mathlib.Core.Path.{ap, ◌∙◌}
use native.Mathlib.Omega.{arith}
use lib.ListN.{length}
use Rattle.vmd_export.proofs.Laws.{model_kept, model_other}
use Rattle.vmd_export.proofs.joined_model.Goals as goal

pub returns-then-name-eq0 : goal.returns-then-name-eq0
returns-then-name-eq0 c =
    c.model_name.ensures ∙ model_other _ _ (omega (arith, ap length c.model_name-name.ensures))

pub returns : goal.returns
returns c = c.model_name-name.ensures ∙ model_kept _ _ (omega (arith, ap length c.model_name-name.ensures))
