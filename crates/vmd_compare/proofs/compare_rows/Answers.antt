use mathlib.Core.Path.{◌∙◌}
use native.Mathlib.Nat.{sub-zero}
use native.Mathlib.Omega.{arith}
use Rattle.vmd_form.specs.RowLaws.{left_start, left_room, left_differs, left_done}
use Rattle.vmd_compare.proofs.Handed.{handed_on}
use Rattle.vmd_compare.proofs.Turns.{row_turn}
use Rattle.vmd_compare.proofs.compare_rows.Goals as goal

pub loop-init : goal.loop-init
loop-init g c = rw sub-zero (left_start c.args.file.now _ _ c.args.at c.args.n c.requires)

pub compare-requires : goal.compare-requires
compare-requires g c = left_room c.loop.invariant (omega arith)

pub returns-in_err-compare : goal.returns-in_err-compare
returns-in_err-compare g c =
    handed_on _ _ c.from_residual.ensures.1 ∙ left_differs c.loop.invariant (omega arith) _ c.in_err-compare.ensures

pub overflow_add-p : goal.overflow_add-p
overflow_add-p g c = omega (arith, left_room c.loop.invariant (omega arith))

pub loop-preserved : goal.loop-preserved
loop-preserved g c =
    rw c.SIZE-p.ensures
    (row_turn _ _ (omega arith) c.loop.invariant
    (g.met.T.VmdComparedRecord.saved_length c.args.file.now c.loop.p (left_room c.loop.invariant (omega arith))) c.in_ok-compare.ensures)

pub returns : goal.returns
returns g c = left_done c.loop.invariant (omega arith)
