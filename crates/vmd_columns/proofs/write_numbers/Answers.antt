use Rattle.vmd_columns.specs.ColumnLaws.{numbers_wide}
use Rattle.vmd_columns.proofs.Going.{column_start, column_turn}
use Rattle.vmd_columns.proofs.write_numbers.Goals as goal

pub loop-i-init : goal.loop-i-init
loop-i-init c = column_start _ _ _ _

pub loop-i-preserved : goal.loop-i-preserved
loop-i-preserved c =
    let s = c.args in
    column_turn (numbers_wide s.s.now s.w) s.out.now s.at s.offset s.size c.loop-i.i s.n c.loop-i-test.true c.requires.1 c.requires.0 c.requires.2 c.loop-i.invariant c.copy_numbers.ensures
