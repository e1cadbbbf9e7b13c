-- `vmd_count::count_names` meets its contract. Assumes nothing.
use Rattle.vmd_count.proofs.Counts.{none_found}
use Rattle.vmd_count.proofs.count_names.Goals as goal

pub returns-then-n-eq0 : goal.returns-then-n-eq0
returns-then-n-eq0 c =
    let a = c.args in
    none_found a.cut a.s.now a.at a.size a.n c.if-n-eq0.true
