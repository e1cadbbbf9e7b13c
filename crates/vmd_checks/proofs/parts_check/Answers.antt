-- `vmd_checks::parts_check` meets its contract. Assumes nothing.
use mathlib.Core.Path.{sym, ◌∙◌, ap}
use Rattle.vmd_names.proofs.Checks.{chain_fails, chain_on, exit_fails}
use Rattle.vmd_format.specs.Refusal.{parts_not_whole}
use Rattle.vmd_format.specs.Parts.{need}
use Rattle.vmd_laws.specs.PartsLaws.{need_passes}
use Rattle.vmd_checks.proofs.Whole.{chain, chained, whole_are}
use Rattle.vmd_checks.proofs.parts_check.Goals as goal

pub returns-in_err-need : goal.returns-in_err-need
unfolding chain
returns-in_err-need c =
    exit_fails _ _ c.from_residual.ensures.1
    (chained _ (chain_fails _ (c.in_err-need.ensures ∙ ap (λ b. need b parts_not_whole) c.is_whole.ensures)))

pub names_check-requires : goal.names_check-requires
names_check-requires c =
    let w = whole_are _ _ _ _ _ _ (sym c.is_whole.ensures ∙ need_passes _ parts_not_whole (sym c.in_ok-need.ensures)) in
    (w.bone_table, w.morph_table)

pub returns-in_err-names_check : goal.returns-in_err-names_check
unfolding chain
returns-in_err-names_check c =
    exit_fails _ _ c.from_residual-in_err-names_check.ensures.1
    (chained _
    (chain_on _ (c.in_ok-need.ensures ∙ ap (λ b. need b parts_not_whole) c.is_whole.ensures)
    (chain_fails _ c.in_err-names_check.ensures)))

pub records_check-requires : goal.records_check-requires
records_check-requires c =
    (whole_are _ _ _ _ _ _ (sym c.is_whole.ensures ∙ need_passes _ parts_not_whole (sym c.in_ok-need.ensures))).properties

pub returns-in_err-records_check : goal.returns-in_err-records_check
unfolding chain
returns-in_err-records_check c =
    exit_fails _ _ c.from_residual-in_err-records_check.ensures.1
    (chained _
    (chain_on _ (c.in_ok-need.ensures ∙ ap (λ b. need b parts_not_whole) c.is_whole.ensures)
    (chain_on _ c.in_ok-names_check.ensures
    (chain_fails _ c.in_err-records_check.ensures))))

pub returns : goal.returns
unfolding chain
returns c =
    chained _
    (chain_on _ (c.in_ok-need.ensures ∙ ap (λ b. need b parts_not_whole) c.is_whole.ensures)
    (chain_on _ c.in_ok-names_check.ensures
    (chain_on _ c.in_ok-records_check.ensures (rw c.property_count-properties.ensures at c.columns_check.ensures))))
