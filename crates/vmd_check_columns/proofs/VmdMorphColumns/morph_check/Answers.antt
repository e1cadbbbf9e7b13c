-- `vmd_check_columns::VmdMorphColumns::morph_check` meets its contract. Assumes nothing.
use mathlib.Core.Path.{ap, sym, ◌∙◌}
use native.Mathlib.Omega.{arith}
use Rattle.vmd_format.specs.Refusal.{not_finite}
use Rattle.vmd_format.specs.Parts.{need, finite}
use Rattle.vmd_names.proofs.Checks.{chain_fails, chain_on, exit_fails}
use Rattle.vmd_check_columns.specs.Stages.{morph_right}
use Rattle.vmd_check_columns.proofs.Columns.{bits_at}
use Rattle.vmd_check_columns.proofs.VmdMorphColumns.morph_check.Goals as goal

pub returns-in_err-index_check : goal.returns-in_err-index_check
unfolding morph_right
returns-in_err-index_check c =
    exit_fails _ _ c.from_residual.ensures.1 (chain_fails _ c.in_err-index_check.ensures)

pub returns : goal.returns
unfolding morph_right
returns c =
    chain_on _ c.in_ok-index_check.ensures
    (c.need.ensures ∙ ap (λ b. need b not_finite) (c.is_finite.ensures ∙ ap finite (sym (bits_at c.args.self.now.weights.now c.args.i (omega arith)))))
