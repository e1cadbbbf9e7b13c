-- `vmd_compare::VmdParsedIkState::compare` meets its contract. Assumes nothing.
use mathlib.Core.Path.{sym, ap, ◌∙◌}
use native.Mathlib.Omega.{arith}
use Rattle.vmd_form.specs.Compare.{compare_at}
use Rattle.vmd_form.specs.RowLaws.{ik_agrees, ik_differs}
use Rattle.vmd_form.specs.Rows.{flag_field}
use Rattle.vmd_compare.proofs.Handed.{handed_on}
use Rattle.vmd_compare.proofs.VmdParsedIkStateVmdComparedRecord.compare.Goals as goal

pub returns-in_err-flag : goal.returns-in_err-flag
returns-in_err-flag c =
    handed_on _ _ c.from_residual.ensures.1 ∙ sym (ik_differs c.args.file.now c.args.at _ (sym c.in_err-flag.ensures))

pub compare_flag-requires : goal.compare_flag-requires
compare_flag-requires c = omega (arith, (ik_agrees c.args.file.now c.args.at _ (sym c.in_ok-flag.ensures)).0)

pub returns : goal.returns
returns c =
    let a = ik_agrees c.args.file.now c.args.at _ (sym c.in_ok-flag.ensures) in
    c.compare_flag.ensures ∙ ap (λ q. compare_at c.args.file.now q (flag_field c.args.file.now q)) a.0 ∙ sym a.1
