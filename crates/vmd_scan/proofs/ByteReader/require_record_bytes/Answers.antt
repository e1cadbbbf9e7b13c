-- `vmd_scan::ByteReader::require_record_bytes` meets its contract. Assumes nothing.
use borrow.Author.Rules.{rules}
use Rattle.vmd_scan.proofs.Laws.{size_fits}
use Rattle.vmd_scan.proofs.ByteReader.require_record_bytes.Goals as goal

pub overflow_mul-bytes : goal.overflow_mul-bytes
overflow_mul-bytes c = record { fits = size_fits _ _ (search rules) (search rules) }

pub returns : goal.returns
returns c = rw c.remaining.ensures
