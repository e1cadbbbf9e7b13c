-- `vmd_count::keep_firsts` meets its contract. Assumes nothing.
use Rattle.vmd_keys.specs.Rowed.{row_key}
use Rattle.vmd_count.specs.Held.{Firsts}
use Rattle.vmd_count.proofs.keep_firsts.Given as goal

abbrev pub invariant-loop-k : goal.invariant-loop-k
invariant-loop-k l = Firsts (row_key l.rows) l.k l.initial.a l.j l.a
