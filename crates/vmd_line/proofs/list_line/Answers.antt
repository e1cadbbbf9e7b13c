-- `vmd_line::list_line` meets its contract. Assumes nothing.
use native.Mathlib.Omega.{arith}
use Rattle.vmd_line.proofs.list_line.Goals as goal

pub returns : goal.returns
returns c = let w = c.write_line.ensures in record { out_after = w.wrote.holds; value = omega (arith, w.wrote.ends); scratch_left = w.scratch_left }
