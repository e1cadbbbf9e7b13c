-- `vmd_line::numbers_of` meets its contract. Assumes nothing.
use native.Mathlib.Omega.{arith}
use Rattle.vmd_line.specs.Line.{numbers}
use Rattle.vmd_line.proofs.numbers_of.Goals as goal

pub overflow_cast-result-6 : goal.overflow_cast-result-6
overflow_cast-result-6 c = omega (arith, c.struct_known-6-1.given)

pub returns : goal.returns
unfolding numbers
returns c = rw c.export_size-size.ensures
