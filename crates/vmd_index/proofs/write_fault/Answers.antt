-- `vmd_index::write_fault` meets its contract. Assumes nothing.
use Rattle.vmd_text.specs.Text.{text}
use Rattle.vmd_index.proofs.Text.{reason_fits, message_done}
use Rattle.vmd_index.proofs.write_fault.Goals as goal

pub write_text-requires : goal.write_text-requires
unfolding text
write_text-requires c =
    rw c.reason.ensures (reason_fits _ _ _ _ _ _ _ c.requires c.write_text-at.ensures c.write_decimal-end.ensures.wrote c.write_decimal-end.ensures.upper_bound)

pub returns : goal.returns
unfolding text
returns c =
    message_done _ _ _ _ _ _ _ _ _ c.requires c.write_text-at.ensures c.write_decimal-end.ensures.wrote c.write_decimal-end.ensures.upper_bound
    (rw c.reason.ensures at c.write_text.ensures)
