-- `vmd_scan::next_property_frame` meets its contract. Assumes nothing.
use native.Mathlib.Omega.{arith}
use Rattle.vmd_format.specs.Fetch.{next_frame}
use Rattle.vmd_scan.proofs.next_property_frame.Goals as goal

pub overflow_add-at : goal.overflow_add-at
unfolding next_frame
overflow_add-at c = omega arith

pub read_u32_le-count-requires : goal.read_u32_le-count-requires
unfolding next_frame
read_u32_le-count-requires c = omega arith

pub overflow_add-result : goal.overflow_add-result
unfolding next_frame
overflow_add-result c = omega arith

pub overflow_cast-result : goal.overflow_cast-result
unfolding next_frame
overflow_cast-result c = omega arith

pub overflow_mul-result : goal.overflow_mul-result
unfolding next_frame
overflow_mul-result c = omega arith

pub overflow_add-result-2 : goal.overflow_add-result-2
unfolding next_frame
overflow_add-result-2 c = omega arith

pub returns : goal.returns
unfolding next_frame
returns c = omega arith
