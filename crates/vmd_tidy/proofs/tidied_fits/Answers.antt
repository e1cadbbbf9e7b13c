-- `vmd_tidy::tidied_fits` meets its contract. Assumes nothing.
use mathlib.Core.Path.{sym, ◌∙◌}
use Rattle.vmd_scan.specs.Meaning.{scan_is}
use Rattle.vmd_tidy.specs.StageLaws.{export_fits}
use Rattle.vmd_tidy.proofs.Laws.{within_ok, kept_fits}
use Rattle.vmd_tidy.proofs.tidied_fits.Goals as goal

pub returns-then-is_ok : goal.returns-then-is_ok
returns-then-is_ok c =
    export_fits c.args.take.now.file.now (scan_is c.args.take.now.sections) c.args.take.now.scanned c.args.limit
    (sym (within_ok _ _ _ (rw c.counts.ensures at c.file_size-export.ensures)) ∙ sym c.is_ok.ensures.value ∙ c.if-is_ok.true)

pub returns : goal.returns
returns c = c.is_ok-2.ensures.value ∙ within_ok _ _ _ c.file_size-tidied.ensures ∙ kept_fits c.args.take.now.file.now (scan_is c.args.take.now.sections) c.count_kept-kept.ensures c.args.limit
