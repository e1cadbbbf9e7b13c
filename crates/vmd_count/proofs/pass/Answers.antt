-- `vmd_count::pass` meets its contract. Assumes nothing.
use mathlib.Core.Path.{refl}
use native.Mathlib.Omega.{arith}
use Rattle.vmd_keys.specs.Rowed.{row_key}
use Rattle.vmd_count.proofs.HeldLaws.{holds_start}
use Rattle.vmd_count.specs.Rowed.{bound}
use Rattle.vmd_count.proofs.pass.Goals as goal

pub loop-i-init : goal.loop-i-init
loop-i-init c =
    let a = c.args in
    (omega arith, refl, holds_start (row_key a.rows) (bound a.floor) a.a.now)
