-- `vmd_bytes::copy_interpolation` meets its contract. The invariant: the first k words are copied, and nothing else has changed. Assumes nothing.
use Rattle.std.proofs.Common.{◌≡◌, ◌*◌, length}
use Rattle.vmd_bytes.specs.Slices.{splice, run}
use Rattle.vmd_bytes.proofs.copy_interpolation.Given as goal

abbrev pub invariant-loop-k : goal.invariant-loop-k
invariant-loop-k l = (length l.out ≡ length l.initial.out) × (l.out ≡ splice l.initial.out l.to (run l.src l.at (8 * l.k)))
