-- `vmd_writers::VmdParsedBoneFrame::write_one` meets its contract: the rest is written over the byte that the name is written too wide. Assumes nothing.
use native.Mathlib.Omega.{arith}
use Rattle.vmd_laws.specs.Rewriting.{bone_rewrites}
use Rattle.vmd_writers.proofs.Records.{named}
use Rattle.vmd_writers.proofs.VmdParsedBoneFrameVmdWrite.write_one.Goals as goal

pub returns : goal.returns
returns c =
    let s = c.args in
    named s.src.now s.out.now s.at s.to (λ i. (c.type_inv.src i).fits) 15 96 bone_rewrites (omega arith) (omega arith) (omega arith)
    c.write_name.ensures c.copy_bytes.ensures
