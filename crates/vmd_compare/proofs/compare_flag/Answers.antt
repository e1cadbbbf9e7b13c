-- `vmd_compare::compare_flag` meets its contract. Assumes nothing.
use mathlib.Core.Path.{sym}
use native.Mathlib.Omega.{arith}
use Rattle.vmd_form.specs.FieldLaws.{flag_agrees, flag_differs}
use Rattle.vmd_compare.proofs.compare_flag.Goals as goal

pub returns-then-file-at-gt1 : goal.returns-then-file-at-gt1
returns-then-file-at-gt1 c =
    sym (flag_differs c.args.file.now c.args.at (omega arith) (omega arith))

pub returns : goal.returns
returns c =
    sym (flag_agrees c.args.file.now c.args.at (omega arith) (omega arith))
