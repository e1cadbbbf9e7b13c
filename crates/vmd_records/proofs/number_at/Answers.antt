-- `vmd_records::number_at` meets its contract: what each byte widens to adds up to the number. Assumes nothing.
use borrow.Author.Rules.{rules}
use Rattle.vmd_bytes.proofs.Laws.{u32_drop}
use Rattle.vmd_records.proofs.number_at.Goals as goal

pub returns : goal.returns
returns c = rw u32_drop (search rules)
