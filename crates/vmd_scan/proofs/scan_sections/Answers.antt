-- `vmd_scan::scan_sections` meets its contract. Assumes nothing.
use mathlib.Core.Path.{refl, sym, ◌∙◌}
use Rattle.vmd_format.specs.Answer.{and_then}
use Rattle.vmd_base.proofs.Refused.{handed_on}
use Rattle.vmd_scan.proofs.Laws.{scan_steps, back_starts}
use Rattle.vmd_scan.proofs.scan_sections.Goals as goal

pub scan_end-requires : goal.scan_end-requires
scan_end-requires c = back_starts _ _ _ _ (sym c.in_ok-back.ensures)

pub returns-in_err-front : goal.returns-in_err-front
unfolding and_then
returns-in_err-front c =
    handed_on _ _ _ c.from_residual.ensures.1
    ∙ rw (scan_steps, sym c.oversized_in-oversized.ensures, sym c.in_err-front.ensures) refl

pub returns-in_err-back : goal.returns-in_err-back
unfolding and_then
returns-in_err-back c =
    handed_on _ _ _ c.from_residual-in_err-back.ensures.1
    ∙ rw (scan_steps, sym c.oversized_in-oversized.ensures, sym c.in_ok-front.ensures, sym c.in_err-back.ensures) refl

pub returns : goal.returns
unfolding and_then
returns c =
    rw (scan_steps, sym c.oversized_in-oversized.ensures, sym c.in_ok-front.ensures, sym c.in_ok-back.ensures) c.scan_end.ensures
