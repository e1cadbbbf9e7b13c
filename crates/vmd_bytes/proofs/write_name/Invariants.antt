-- `vmd_bytes::write_name` meets its contract, at every width. The invariant: k words are written in canonical form, and `live` says whether the name goes on after them. Assumes nothing.
use Rattle.std.proofs.Common.{◌≡◌, ◌*◌, true, length}
use Rattle.vmd_bytes.specs.Slices.{splice, run}
use Rattle.vmd_bytes.specs.Fields.{no_zero, canonical}
use Rattle.vmd_bytes.proofs.write_name.Given as goal

abbrev pub invariant-loop-k : goal.invariant-loop-k
invariant-loop-k l = (length l.out ≡ length l.initial.out) × (l.live ≡ no_zero (run l.src l.at (8 * l.k))) × (l.out ≡ splice l.initial.out l.to (canonical true (run l.src l.at (8 * l.k))))
