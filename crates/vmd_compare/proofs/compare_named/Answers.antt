-- `vmd_compare::compare_named` meets its contract. Assumes nothing.
use mathlib.Core.Path.{sym, ◌∙◌}
use native.Mathlib.Omega.{arith}
use Rattle.vmd_form.specs.RowLaws.{named_agrees, named_differs}
use Rattle.vmd_form.specs.FieldLaws.{name_agrees}
use Rattle.vmd_compare.proofs.Handed.{handed_on}
use Rattle.vmd_compare.proofs.compare_named.Goals as goal

pub returns-then-is_plain_name : goal.returns-then-is_plain_name
returns-then-is_plain_name c =
    sym (named_agrees c.args.file.now c.args.at c.args.size _ c.requires.0 c.requires.1 (name_agrees c.args.file.now c.args.at 15 (omega arith) (c.is_plain_name.ensures c.if-is_plain_name.true)))

pub returns-in_err-compare_name : goal.returns-in_err-compare_name
returns-in_err-compare_name c =
    handed_on _ _ c.from_residual.ensures.1 ∙ sym (named_differs c.args.file.now c.args.at c.args.size _ (sym c.in_err-compare_name.ensures))

pub returns : goal.returns
returns c =
    sym (named_agrees c.args.file.now c.args.at c.args.size _ c.requires.0 c.requires.1 (sym c.in_ok-compare_name.ensures))
