-- `vmd_bytes::put_word` meets its contract. Assumes nothing.
use Rattle.std.proofs.Common.{◌∙◌}
use Rattle.vmd_bytes.proofs.Words.{word_bytes}
use Rattle.vmd_bytes.proofs.put_word.Goals as goal

pub returns : goal.returns
returns c = c.put_bytes.ensures ∙ rw (c.to_le_bytes.ensures, word_bytes c.args.v)
