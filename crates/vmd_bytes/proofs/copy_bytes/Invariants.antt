-- `vmd_bytes::copy_bytes` meets its contract. The invariant: the first i bytes are copied, and nothing else has changed. Assumes nothing.
use Rattle.std.proofs.Common.{◌≡◌, length}
use Rattle.vmd_bytes.specs.Slices.{splice, run}
use Rattle.vmd_bytes.proofs.copy_bytes.Given as goal

abbrev pub invariant-loop-i : goal.invariant-loop-i
invariant-loop-i l = (length l.out ≡ length l.initial.out) × (l.out ≡ splice l.initial.out l.to (run l.src l.at l.i))
