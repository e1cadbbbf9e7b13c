-- `vmd_count::is_fresh` meets its contract. Assumes nothing.
use Rattle.vmd_keys.specs.Rowed.{row_key}
use Rattle.vmd_count.proofs.HeldLaws.{fresh_first, fresh_later}
use Rattle.vmd_count.proofs.is_fresh.Goals as goal

pub returns-then-j-eq0 : goal.returns-then-j-eq0
returns-then-j-eq0 c =
    let a = c.args in fresh_first (row_key a.rows) a.a.now a.j a.x c.if-j-eq0.true

pub returns-else-j-eq0 : goal.returns-else-j-eq0
returns-else-j-eq0 c =
    let a = c.args in
    fresh_later (row_key a.rows) a.a.now a.j a.x _ c.if-j-eq0.false c.same_name.ensures
