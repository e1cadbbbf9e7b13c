-- `vmd_count::count` meets its contract. Assumes nothing.
use mathlib.Core.Path.{◌≡◌}
use Prim.Native.Nat.{◌-◌}
use lib.ListN.{length}
use Rattle.vmd_keys.specs.Keys.{top}
use Rattle.vmd_keys.specs.Rowed.{row_key}
use Rattle.vmd_count.specs.Held.{low, weight_below, one}
use Rattle.vmd_count.specs.Rowed.{bound}
use Rattle.vmd_count.proofs.count.Given as goal

abbrev pub invariant-loop-held : goal.invariant-loop-held
invariant-loop-held l = (length l.cache ≡ length l.initial.cache)
    × (l.names ≡ weight_below l.rows.cut l.rows.file.now l.rows.place l.rows.size l.rows.count one (low (row_key l.rows) (bound l.floor)))
    × (l.bytes ≡ weight_below l.rows.cut l.rows.file.now l.rows.place l.rows.size l.rows.count length (low (row_key l.rows) (bound l.floor)))

abbrev pub decreases-loop-held : goal.decreases-loop-held
decreases-loop-held l = top - low (row_key l.rows) (bound l.floor)
