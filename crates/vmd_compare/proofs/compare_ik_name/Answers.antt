-- `vmd_compare::compare_ik_name` meets its contract. Assumes nothing.
use mathlib.Core.Path.{sym}
use native.Mathlib.Omega.{arith}
use Rattle.vmd_form.specs.FieldLaws.{name_agrees}
use Rattle.vmd_compare.proofs.compare_ik_name.Goals as goal

pub returns-then-is_plain_ik_name : goal.returns-then-is_plain_ik_name
returns-then-is_plain_ik_name c =
    sym (name_agrees c.args.file.now c.args.at 20 (omega arith) (c.is_plain_ik_name.ensures c.if-is_plain_ik_name.true))
