-- `vmd_bytes::write_name_end` meets its contract, at every width. The invariant: i bytes are written in canonical form, and `on` says whether the name goes on after them. Assumes nothing.
use Rattle.std.proofs.Common.{◌≡◌, ◌&&◌, length}
use Rattle.vmd_bytes.specs.Slices.{splice, run}
use Rattle.vmd_bytes.specs.Fields.{no_zero, canonical}
use Rattle.vmd_bytes.proofs.write_name_end.Given as goal

abbrev pub invariant-loop-i : goal.invariant-loop-i
invariant-loop-i l = (length l.out ≡ length l.initial.out) × (l.on ≡ (l.live && no_zero (run l.src l.at l.i))) × (l.out ≡ splice l.initial.out l.to (canonical l.live (run l.src l.at l.i)))
