-- `vmd_bytes::float_from_bits` meets its contract: a NaN's pattern is told by its size, and any other is the machine's own. Assumes nothing.
use Rattle.std.proofs.Common.{sym, ◌∙◌, arith}
use Rattle.vmd_bytes.proofs.Floats.{nan_pattern, other_pattern}
use Rattle.vmd_bytes.proofs.float_from_bits.Goals as goal

pub returns-then-bits-gt2139095040 : goal.returns-then-bits-gt2139095040
returns-then-bits-gt2139095040 c = nan_pattern 2143289344 (omega arith) ∙ sym (nan_pattern c.args.bits c.if-bits-gt2139095040.true)

pub float_from_bits-result : goal.float_from_bits-result
float_from_bits-result c = other_pattern c.args.bits c.if-bits-gt2139095040.false
