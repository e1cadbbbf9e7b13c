-- `vmd_writers::VmdParsedIkState::write_one` meets its contract: the name, and then the flag. Assumes nothing.
use native.Mathlib.Omega.{arith}
use Rattle.vmd_format.specs.Bytes.{before_zero, padded, is_set, flag_byte}
use Rattle.vmd_laws.specs.BytesLaws.{padded_length}
use Rattle.vmd_laws.specs.Rewriting.{ik_state_rewrites}
use Rattle.vmd_writers.proofs.Records.{flagged}
use Rattle.vmd_writers.proofs.VmdParsedIkStateVmdWrite.write_one.Goals as goal

pub returns : goal.returns
returns c =
    let s = c.args in
    flagged s.src.now s.out.now s.at s.to (λ i. (c.type_inv.src i).fits) 20 (λ u. padded 20 (before_zero u)) (λ b. flag_byte (is_set b)) ik_state_rewrites (padded_length _ _) (omega arith) (omega arith)
    c.write_name.ensures c.canonical_flag-flag.ensures
