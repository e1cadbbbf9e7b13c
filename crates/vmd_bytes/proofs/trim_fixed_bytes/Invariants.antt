-- `vmd_bytes::trim_fixed_bytes` meets its contract. The invariant: no byte before i is zero. Assumes nothing.
use Rattle.std.proofs.Common.{◌≡◌, ℕ, ◌<◌, get_or}
use Rattle.vmd_bytes.proofs.trim_fixed_bytes.Given as goal

abbrev pub invariant-loop-i : goal.invariant-loop-i
invariant-loop-i l = (k : ℕ) → k < l.i → get_or l.bytes k 0 ≡ 0 → ⊥
