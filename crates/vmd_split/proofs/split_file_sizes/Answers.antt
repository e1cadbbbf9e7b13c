-- `vmd_split::split_file_sizes` meets its contract. Assumes nothing.
use mathlib.Core.Path.{sym, ◌∙◌}
use native.Mathlib.Omega.{arith}
use borrow.Author.Tests.{le-leb}
use Rattle.std.proofs.lemmas.Bool.Decides.{nat_tests}
use Rattle.vmd_base.proofs.Refused.{handed_on}
use Rattle.vmd_scan.specs.Meaning.{scan_is}
use Rattle.vmd_split.proofs.Laws.{counted, sizes_refused, sizes_given, sizes_over}
use Rattle.vmd_split.proofs.split_file_sizes.Goals as goal

pub returns-in_err-take : goal.returns-in_err-take
returns-in_err-take c = handed_on _ _ _ c.from_residual.ensures.1 ∙ sizes_refused _ _ (sym c.in_err-take.ensures.found)

pub returns-then-morphs-le-LARGEST_TABLE : goal.returns-then-morphs-le-LARGEST_TABLE
returns-then-morphs-le-LARGEST_TABLE c =
    let t = c.in_ok-take.ensures in
    let x = scan_is c.in_ok-take.take.sections in
    rw (← t.same) (sizes_given _ _ {x = x} (rw t.same (sym t.found)) (counted _ x.bones 111 c.count_names-bones.ensures) (counted _ x.morphs 23 c.count_names-morphs.ensures)
    (rw (le-leb _ _ c.if-bones-le-LARGEST_TABLE.true, le-leb _ _ c.if-morphs-le-LARGEST_TABLE.true)))

pub returns : goal.returns
returns c =
    let t = c.in_ok-take.ensures in
    let x = scan_is c.in_ok-take.take.sections in
    rw (← t.same) (sizes_over _ _ {x = x} (rw t.same (sym t.found)) (counted _ x.bones 111 c.count_names-bones.ensures) (counted _ x.morphs 23 c.count_names-morphs.ensures)
    (grind (arith, nat_tests, c.else-bones-le-LARGEST_TABLE.either)))
