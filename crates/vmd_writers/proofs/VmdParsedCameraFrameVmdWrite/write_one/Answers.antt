-- `vmd_writers::VmdParsedCameraFrame::write_one` meets its contract: 60 bytes as they are, and then the flag. Assumes nothing.
use native.Mathlib.Omega.{arith}
use Rattle.vmd_format.specs.Bytes.{is_zero, inverted_byte}
use Rattle.vmd_bytes.proofs.Laws.{length_run}
use Rattle.vmd_laws.specs.Rewriting.{camera_rewrites}
use Rattle.vmd_writers.proofs.Records.{flagged}
use Rattle.vmd_writers.proofs.VmdParsedCameraFrameVmdWrite.write_one.Goals as goal

pub returns : goal.returns
returns c =
    let s = c.args in
    flagged s.src.now s.out.now s.at s.to (λ i. (c.type_inv.src i).fits) 60 (λ u. u) (λ b. inverted_byte (is_zero b)) camera_rewrites (length_run _ _ _ (omega arith)) (omega arith) (omega arith)
    c.copy_camera_front.ensures c.canonical_inverted-flag.ensures
