-- `vmd_scan::scan_whole` meets its contract. Assumes nothing.
use mathlib.Core.Path.{sym}
use Rattle.vmd_laws.specs.Places.{scan_file}
use Rattle.vmd_base.proofs.Refused.{first_refused, first_given}
use Rattle.vmd_header.proofs.Laws.{sections_begin, header_headed, header_refused}
use Rattle.vmd_scan.proofs.scan_whole.Goals as goal

pub scan_sections-requires : goal.scan_sections-requires
scan_sections-requires c = (header_headed _ _ (sym c.in_ok-header.ensures)).starts

pub returns-in_err-header : goal.returns-in_err-header
unfolding scan_file
returns-in_err-header c =
    first_refused _ _ _ _ c.from_residual.ensures.1 (sym (header_refused _ _ (sym c.in_err-header.ensures)))

pub returns : goal.returns
unfolding scan_file
returns c = first_given _ _ (sym (sections_begin _ _ (sym c.in_ok-header.ensures))) c.scan_sections.ensures
