-- `vmd_checks::VmdParts::columns_check` meets its contract. Assumes nothing.
use mathlib.Core.Path.{sym, ◌∙◌}
use Rattle.vmd_names.proofs.Checks.{chain_fails, chain_on, exit_fails}
use Rattle.vmd_checks.specs.Stages.{all_columns}
use Rattle.vmd_checks.proofs.Whole.{columns_bits, columns_hold}
use Rattle.vmd_checks.proofs.VmdParts.columns_check.Goals as goal

pub values_check-requires : goal.values_check-requires
values_check-requires c = columns_hold _ _ _ _ _ _ _ _ (sym c.in_ok-columns_check.ensures)

pub returns-in_err-columns_check : goal.returns-in_err-columns_check
unfolding all_columns
returns-in_err-columns_check c =
    let a = c.args.self.now in
    exit_fails _ _ c.from_residual.ensures.1
    (chain_fails _ (c.in_err-columns_check.ensures ∙ columns_bits _ _ a.bones.translations_xyz.now a.bones.rotations_xyzw.now _ _ _ a.morphs.weights.now))

pub returns-in_err-counts_check : goal.returns-in_err-counts_check
unfolding all_columns
returns-in_err-counts_check c =
    let a = c.args.self.now in
    exit_fails _ _ c.from_residual-in_err-counts_check.ensures.1
    (chain_on _ (c.in_ok-columns_check.ensures ∙ columns_bits _ _ a.bones.translations_xyz.now a.bones.rotations_xyzw.now _ _ _ a.morphs.weights.now)
    (chain_fails _ (rw (c.len.ensures, c.len-2.ensures) at c.in_err-counts_check.ensures)))

pub returns : goal.returns
unfolding all_columns
returns c =
    let a = c.args.self.now in
    chain_on _ (c.in_ok-columns_check.ensures ∙ columns_bits _ _ a.bones.translations_xyz.now a.bones.rotations_xyzw.now _ _ _ a.morphs.weights.now)
    (chain_on _ (rw (c.len.ensures, c.len-2.ensures) at c.in_ok-counts_check.ensures) c.values_check.ensures)
