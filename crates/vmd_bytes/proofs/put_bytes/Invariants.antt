-- `vmd_bytes::put_bytes` meets its contract, at every N. The invariant: the first k bytes are written, and nothing else has changed. Assumes nothing.
use Rattle.std.proofs.Common.{◌≡◌, length}
use Rattle.vmd_bytes.specs.Slices.{splice, run}
use Rattle.vmd_bytes.proofs.put_bytes.Given as goal

abbrev pub invariant-loop-k : goal.invariant-loop-k
invariant-loop-k g l = (length l.out ≡ length l.initial.out) × (l.out ≡ splice l.initial.out l.at (run l.bytes 0 l.k))
