-- `vmd_scan::ByteReader::read_record_count` meets its contract. Assumes nothing.
use mathlib.Core.Path.{sym, ◌∙◌}
use Rattle.vmd_base.proofs.Refused.{first_refused, first_given}
use Rattle.vmd_scan.proofs.Laws.{span_steps}
use Rattle.vmd_scan.proofs.ByteReader.read_record_count.Goals as goal

pub returns-in_err-count : goal.returns-in_err-count
returns-in_err-count c = first_refused _ _ _ _ c.from_residual.ensures.1 c.in_err-count.ensures ∙ sym (span_steps _ _ _ _)

pub returns : goal.returns
returns c = first_given _ _ c.in_ok-count.ensures c.counted_section.ensures ∙ sym (span_steps _ _ _ _)
