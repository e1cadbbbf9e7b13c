-- `vmd_export::alone` meets its contract. Assumes nothing.
use native.Mathlib.Omega.{arith}
use Rattle.vmd_export.specs.Together.{no_scan}
use Rattle.vmd_export.proofs.Laws.{no_scanned}
use Rattle.vmd_export.proofs.alone.Goals as goal

pub invariant_of-result : goal.invariant_of-result
invariant_of-result c = record { scanned = rw c.no_sections-sections.ensures (no_scanned c.args.take.file.now); bytes = c.args.take.bytes }

pub invariant_of-result-2 : goal.invariant_of-result-2
unfolding no_scan
invariant_of-result-2 c = record { sums = rw c.no_sections-sections.ensures (omega arith) }
