-- `vmd_bytes::live_after_word` meets its contract. Assumes nothing.
use Rattle.vmd_bytes.proofs.Words.{flags_none}
use Rattle.vmd_bytes.proofs.live_after_word.Goals as goal

pub returns-then-live : goal.returns-then-live
returns-then-live c = rw (c.if-live.true, c.zeros_in-no_zero.ensures) (flags_none 8 c.args.x)
