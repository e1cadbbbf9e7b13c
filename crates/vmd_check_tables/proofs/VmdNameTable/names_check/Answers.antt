use native.Mathlib.Omega.{arith}
use Rattle.vmd_names.proofs.Checks.{exit_fails}
use Rattle.vmd_check_tables.proofs.Tables.{naming_start, naming_fits, naming_fails, naming_turn, naming_end}
use Rattle.vmd_check_tables.proofs.VmdNameTable.names_check.Goals as goal

pub loop-end-init : goal.loop-end-init
loop-end-init c = naming_start c.requires

pub slice_bounds-name-count : goal.slice_bounds-name-count
slice_bounds-name-count c = (naming_fits c.loop-end.invariant c.loop-end-test.true).0

pub slice_bounds-name-start : goal.slice_bounds-name-start
slice_bounds-name-start c = omega (arith, naming_fits c.loop-end.invariant c.loop-end-test.true)

pub slice_bounds-name-end : goal.slice_bounds-name-end
slice_bounds-name-end c = omega (arith, naming_fits c.loop-end.invariant c.loop-end-test.true)

pub returns-in_err-name_check : goal.returns-in_err-name_check
returns-in_err-name_check c =
    exit_fails _ _ c.from_residual.ensures.1 (naming_fails c.loop-end.invariant c.loop-end-test.true c.in_err-name_check.ensures)

pub loop-end-preserved : goal.loop-end-preserved
loop-end-preserved c = naming_turn c.loop-end.invariant c.loop-end-test.true c.in_ok-name_check.ensures

pub returns : goal.returns
returns c = naming_end c.loop-end.invariant c.loop-end-test.false
