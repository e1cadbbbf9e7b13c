-- `vmd_count::is_wanted` meets its contract. Assumes nothing.
use mathlib.Core.Path.{sym, ◌∙◌}
use Rattle.vmd_keys.specs.Rowed.{row_key}
use Rattle.vmd_count.proofs.HeldLaws.{wanted_last}
use Rattle.vmd_count.specs.Held.{under, over}
use Rattle.vmd_count.specs.Rowed.{bound}
use Rattle.vmd_count.proofs.is_wanted.Goals as goal
use Rattle.vmd_count.proofs.is_wanted.Goals.{then-is_above, else-is_above}

pub returns-then-is_below : goal.returns-then-is_below
returns-then-is_below c =
    let a = c.args in
    let e = c.earlier_record.ensures in
    elim c.if-is_above.branch [
      | then-is_above w ↦ wanted_last (row_key a.rows) (bound a.floor) (bound a.ceil) a.i _
          (c.is_above.ensures.0 w.if-is_above.true) (w.is_below.ensures.0 (sym w.value-is ∙ c.if-is_below.true)) e.0 e.1
      | else-is_above w ↦ absurd cc
    ]

pub returns-else-is_below : goal.returns-else-is_below
returns-else-is_below c =
    elim c.if-is_above.branch [
      | then-is_above w ↦ let e = w.is_below.ensures.1 (sym w.value-is ∙ c.if-is_below.false) in rw c.if-is_below.false (over e.0 e.1)
      | else-is_above w ↦ rw c.if-is_below.false (under (c.is_above.ensures.1 w.if-is_above.false))
    ]
