-- `vmd_compare::is_plain_name` meets its contract. Assumes nothing.
use native.Mathlib.Omega.{arith}
use Rattle.vmd_form.specs.RowLaws.{zeros_overlap}
use Rattle.vmd_compare.proofs.is_plain_name.Goals as goal

pub returns-then-first : goal.returns-then-first
returns-then-first c =
    λ e. zeros_overlap c.args.file.now c.args.at 7 8 (omega arith) (c.is_plain_word-first.ensures c.if-first.true) (c.is_plain_word-second.ensures e)
