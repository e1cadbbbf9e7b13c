-- `vmd_tidy::measure_file` meets its contract. Assumes nothing.
use mathlib.Core.Path.{sym, ◌∙◌}
use native.Mathlib.Omega.{arith}
use borrow.Author.Tests.{le-leb}
use Rattle.vmd_scan.specs.Meaning.{scan_is}
use Rattle.vmd_tidy.proofs.Laws.{within_ok, within_size, counts_few, kept_fits, kept_size}
use Rattle.vmd_tidy.proofs.measure_file.Goals as goal

pub unwrap-requires : goal.unwrap-requires
unwrap-requires c =
    within_ok _ _ _ c.file_size-size.ensures ∙ kept_fits c.args.take.now.file.now (scan_is c.args.take.now.sections) c.keep_sections-kept.ensures.0 _ ∙ le-leb _ _ c.requires.1

pub dropped_from-requires : goal.dropped_from-requires
dropped_from-requires c = counts_few c.args.take.now.file.now (scan_is c.args.take.now.sections) c.keep_sections-kept.ensures.0.counts_are c.args.take.now.scanned

pub returns : goal.returns
returns c =
    let k = c.keep_sections-kept.ensures in
    let e = kept_size c.args.take.now.file.now (scan_is c.args.take.now.sections) k.0 in
    (within_size _ _ c.file_size-size.ensures c.unwrap.ensures (omega (arith, e, c.requires.1)) ∙ sym e, k.0.counts_are, c.dropped_from.ensures, k.1)
