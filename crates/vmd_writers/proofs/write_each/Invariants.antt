-- `vmd_writers::write_each` meets its contract: so far the first records are written. Assumes nothing.
use Rattle.std.proofs.Common.{◌≡◌, ◌+◌, ◌*◌, drop}
use Rattle.vmd_format.specs.Read.{table, write_all}
use Rattle.vmd_bytes.specs.Slices.{splice}
use Rattle.vmd_writers.proofs.write_each.Given as goal

abbrev pub invariant-loop : goal.invariant-loop
invariant-loop g l =
    let K = g.R.VmdRecord.layout in
    let k = g.R.VmdRecord.SIZE in
    (l.p ≡ l.at + l.counter * k) × (l.q ≡ l.to + l.counter * k) × (l.out ≡ splice l.initial.out l.to (write_all K.encode (table K l.counter (drop l.at l.src))))
