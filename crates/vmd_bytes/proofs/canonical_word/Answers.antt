-- `vmd_bytes::canonical_word` meets its contract. Assumes nothing.
use Rattle.vmd_bytes.proofs.Words.{digits_masked}
use Rattle.vmd_bytes.proofs.canonical_word.Goals as goal

pub returns : goal.returns
returns c = rw (c.mask.ensures, c.zeros_in.ensures) (digits_masked 8 c.args.x c.args.live)
