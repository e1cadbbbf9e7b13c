-- `vmd_bytes::blank_line_feeds` meets its contract. Assumes nothing.
use Rattle.vmd_bytes.specs.Words.{repeated}
use Rattle.vmd_bytes.proofs.Words.{digits_blanked}
use Rattle.vmd_bytes.proofs.blank_line_feeds.Goals as goal

pub returns : goal.returns
unfolding repeated
returns c = rw c.zeros_in-m.ensures (digits_blanked 8 c.args.x)
