-- `vmd_bytes::word_at` meets its contract. Assumes nothing.
use Rattle.std.proofs.Common.{ℕ, arith}
use Rattle.vmd_bytes.proofs.Words.{word_of}
use Rattle.vmd_bytes.proofs.word_at.Goals as goal

pub returns : goal.returns
returns c = word_of c.args.src.now c.args.at _ (omega arith) (λ (k : ℕ). omega (arith, c.type_inv.src k)) c.from_le_bytes.ensures
