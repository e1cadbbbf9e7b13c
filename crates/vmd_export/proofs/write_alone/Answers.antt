-- `vmd_export::write_alone` meets its contract. Assumes nothing.
use native.Mathlib.Omega.{arith}
use Rattle.vmd_export.specs.Together.{no_scan}
use Rattle.vmd_export.proofs.Laws.{no_scanned}
use Rattle.vmd_export.proofs.write_alone.Goals as goal

pub invariant_of-both : goal.invariant_of-both
invariant_of-both c = record { scanned = rw c.no_sections-sections.ensures (no_scanned c.args.take.file.now); bytes = c.args.take.bytes }

pub invariant_of-both-2 : goal.invariant_of-both-2
unfolding no_scan
invariant_of-both-2 c = record { sums = rw c.no_sections-sections.ensures (omega arith) }

pub returns : goal.returns
returns c =
    let w = c.write_take.ensures in
    let s = c.no_sections-sections.ensures in
    record { result_value = rw s at w.result_value; out_after = rw s at w.out_after }
