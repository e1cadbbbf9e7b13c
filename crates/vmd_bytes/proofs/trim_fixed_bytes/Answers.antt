use Rattle.std.proofs.Common.{sym, arith}
use Rattle.vmd_bytes.proofs.Laws.{before_zero_found, before_zero_all}
use Rattle.vmd_bytes.proofs.trim_fixed_bytes.Goals as goal

pub returns-then-bytes-i-eq0 : goal.returns-then-bytes-i-eq0
returns-then-bytes-i-eq0 c =
    sym (before_zero_found c.args.bytes.now c.loop-i.i (omega arith) c.loop-i.invariant c.if-bytes-i-eq0.true)

pub returns : goal.returns
returns c = sym (before_zero_all c.args.bytes.now c.loop-i.i (omega arith) c.loop-i.invariant)
