use Rattle.vmd_columns.specs.ColumnLaws.{run_wide}
use Rattle.vmd_columns.proofs.Going.{column_start, column_turn}
use Rattle.vmd_columns.proofs.write_interpolations.Goals as goal

pub loop-i-init : goal.loop-i-init
loop-i-init c = column_start _ _ _ _

pub loop-i-preserved : goal.loop-i-preserved
loop-i-preserved c =
    let s = c.args in
    column_turn (run_wide s.s.now 64) s.out.now s.at s.offset s.size c.loop-i.i s.n c.loop-i-test.true c.requires.1 c.requires.0 c.requires.2 c.loop-i.invariant c.copy_interpolation.ensures
