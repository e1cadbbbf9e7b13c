-- `vmd_write_columns::name_start` meets its contract. Assumes nothing.
use mathlib.Core.Path.{◌∙◌}
use native.Mathlib.Omega.{arith}
use Rattle.vmd_write_columns.proofs.Names.{start_is}
use Rattle.vmd_write_columns.proofs.name_start.Goals as goal

pub overflow_cast-end : goal.overflow_cast-end
overflow_cast-end c = omega (arith, c.shared_slice_known-2-1.given c.saturating_sub.result)

pub returns : goal.returns
returns c =
    let a = c.args in
    c.unless_first.ensures ∙ rw c.saturating_sub.ensures (start_is a.ends.now a.i)
