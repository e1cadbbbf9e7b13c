-- `vmd_canonical::first_file_change` meets its contract. Assumes nothing.
use mathlib.Core.Path.{sym, ap, ◌∙◌}
use lib.ListN.{length}
use Rattle.vmd_form.proofs.WholeLaws.{refused_change, scanned_change}
use Rattle.vmd_form.specs.LayingLaws.{scanned_from}
use Rattle.vmd_form.specs.Compare.{change_at}
use Rattle.vmd_base.specs.Meaning.{manner_of}
use Rattle.vmd_base.proofs.Refused.{handed_on}
use Rattle.vmd_format.specs.Answer.{given}
use Rattle.vmd_canonical.proofs.first_file_change.Goals as goal

pub returns-in_err-take : goal.returns-in_err-take
returns-in_err-take c =
    handed_on _ _ _ c.from_residual.ensures.1
    ∙ sym (refused_change (manner_of c.args.manner) c.args.file.now _ (sym c.in_err-take.ensures.found))

pub compare_file-requires : goal.compare_file-requires
compare_file-requires c =
    let t = c.in_ok-take.ensures in
    rw t.same (scanned_from (manner_of c.args.manner) c.args.file.now _ (sym t.found))

pub returns : goal.returns
returns c =
    let t = c.in_ok-take.ensures in
    ap given (c.change_found.ensures ∙ ap (change_at (length c.args.file.now)) (rw t.same at c.compare_file.ensures))
    ∙ sym (scanned_change (manner_of c.args.manner) c.args.file.now _ (sym t.found))
