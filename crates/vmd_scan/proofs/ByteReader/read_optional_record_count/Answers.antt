-- `vmd_scan::ByteReader::read_optional_record_count` meets its contract. Assumes nothing.
use mathlib.Core.Path.{sym, ap, ◌∙◌}
use Rattle.vmd_format.specs.Answer.{given}
use Rattle.vmd_base.proofs.Refused.{first_refused, first_given}
use Rattle.vmd_scan.proofs.Laws.{after_count, optional_steps}
use Rattle.vmd_scan.proofs.ByteReader.read_optional_record_count.Goals as goal

pub returns-in_err-number : goal.returns-in_err-number
returns-in_err-number c = first_refused _ _ _ _ c.from_residual.ensures.1 c.in_err-number.ensures ∙ sym (optional_steps _ _ _ _)

pub returns-in-None : goal.returns-in-None
unfolding after_count
returns-in-None c =
    first_given _ _ (rw c.in-None.is at c.in_ok-number.ensures) (ap given c.no_section.ensures) ∙ sym (optional_steps _ _ _ _)

pub returns-in-Some : goal.returns-in-Some
unfolding after_count
returns-in-Some c =
    first_given _ _ (rw c.in-Some.is at c.in_ok-number.ensures) c.counted_section.ensures ∙ sym (optional_steps _ _ _ _)
