-- `vmd_compare::is_plain_ik_name` meets its contract. Assumes nothing.
use native.Mathlib.Omega.{arith}
use Rattle.vmd_form.specs.RowLaws.{zeros_overlap, zeros_within}
use Rattle.vmd_compare.proofs.is_plain_ik_name.Goals as goal

pub returns-then-first : goal.returns-then-first
returns-then-first c =
    λ e. zeros_overlap c.args.file.now c.args.at 12 8 (omega arith) (zeros_within c.args.file.now c.args.at 13 15 (omega arith) (c.is_plain_name-first.ensures c.if-first.true)) (c.is_plain_word-last.ensures e)
