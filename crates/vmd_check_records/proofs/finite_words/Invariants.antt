-- `vmd_check_records::finite_words` meets its contract. Assumes nothing.
use Rattle.vmd_check_records.proofs.Records.{Words}
use Rattle.vmd_check_records.proofs.finite_words.Given as goal

abbrev pub invariant-loop-i : goal.invariant-loop-i
invariant-loop-i l = Words l.bytes l.at l.n l.i l.finite
