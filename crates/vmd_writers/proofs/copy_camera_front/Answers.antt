-- `vmd_writers::copy_camera_front` meets its contract. Assumes nothing.
use native.Mathlib.Omega.{arith}
use Rattle.vmd_writers.proofs.Records.{through}
use Rattle.vmd_writers.proofs.copy_camera_front.Goals as goal

pub returns : goal.returns
returns c =
    let s = c.args in
    through _ s.src.now s.out.now s.at s.to 60 (omega arith) c.copy_bytes.ensures c.copy_bytes-2.ensures
