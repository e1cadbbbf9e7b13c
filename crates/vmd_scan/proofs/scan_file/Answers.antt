-- `vmd_scan::scan_file` meets its contract: what the value carries is what the format says of a scan. Assumes nothing.
use mathlib.Core.Path.{sym}
use Rattle.vmd_laws.specs.ExportLaws.{scan_scanned}
use Rattle.vmd_scan.proofs.scan_file.Goals as goal

pub invariant_of-result : goal.invariant_of-result
invariant_of-result c = record { scanned = scan_scanned _ _ _ (sym c.in_ok-sections.ensures); bytes = λ j. (c.type_inv.file j).fits }
