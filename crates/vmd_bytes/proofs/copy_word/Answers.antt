-- `vmd_bytes::copy_word` meets its contract. Assumes nothing.
use Rattle.std.proofs.Common.{◌∙◌}
use Rattle.vmd_bytes.proofs.copy_word.Goals as goal

pub returns : goal.returns
returns c = c.put_word.ensures ∙ rw c.word_at.ensures
