-- `vmd_tidy::places_for` meets its contract. Assumes nothing.
use mathlib.Core.Path.{sym, ◌∙◌}
use native.Mathlib.Omega.{arith}
use borrow.Author.Tests.{leb-true}
use Rattle.vmd_scan.specs.Meaning.{scan_is}
use Rattle.vmd_tidy.specs.StageLaws.{largest_is, tidied_bytes, fitting_short, fitting_over, fitting_given}
use Rattle.vmd_tidy.proofs.places_for.Goals as goal

pub returns-then-places-needed-clause-found : goal.returns-then-places-needed-clause-found
returns-then-places-needed-clause-found c =
    sym (fitting_short _ _ c.args.room (omega (arith, largest_is c.args.take.now.file.now (scan_is c.args.take.now.sections) c.args.take.now.scanned, c.largest_section-needed.ensures)))

pub returns-then-not-tidied_fits-clause-found : goal.returns-then-not-tidied_fits-clause-found
returns-then-not-tidied_fits-clause-found c =
    sym (fitting_over _ _ _ (omega (arith, largest_is c.args.take.now.file.now (scan_is c.args.take.now.sections) c.args.take.now.scanned, c.largest_section-needed.ensures))
    (rw (← tidied_bytes c.args.take.now.file.now (scan_is c.args.take.now.sections)) (sym c.tidied_fits.ensures ∙ c.if-not-tidied_fits.true)))

pub returns-clause-found : goal.returns-clause-found
returns-clause-found c =
    sym (fitting_given _ _ _ (omega (arith, largest_is c.args.take.now.file.now (scan_is c.args.take.now.sections) c.args.take.now.scanned, c.largest_section-needed.ensures))
    (rw (← tidied_bytes c.args.take.now.file.now (scan_is c.args.take.now.sections)) (sym c.tidied_fits.ensures ∙ c.if-not-tidied_fits.false)))

pub returns-clause-needed : goal.returns-clause-needed
returns-clause-needed c =
    (c.largest_section-needed.ensures, omega arith, leb-true _ _ (sym c.tidied_fits.ensures ∙ c.if-not-tidied_fits.false))
