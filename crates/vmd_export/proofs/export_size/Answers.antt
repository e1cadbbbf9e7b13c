-- `vmd_export::export_size` meets its contract. Assumes nothing.
use mathlib.Core.Path.{sym, ap, ◌∙◌}
use lib.ListN.{length}
use Rattle.vmd_format.specs.Answer.{map_answer, fitted}
use Rattle.vmd_format.specs.Fetch.{model_of}
use Rattle.vmd_output.proofs.Saves.{refused_answer}
use Rattle.vmd_base.proofs.Refused.{handed_on}
use Rattle.vmd_export.proofs.Laws.{both_of, both_size, export_refused, export_given}
use Rattle.vmd_export.proofs.export_size.Goals as goal

pub returns-in_err-take : goal.returns-in_err-take
returns-in_err-take c =
    handed_on _ _ _ c.from_residual.ensures.1 ∙ refused_answer _ _ _ (export_refused _ _ _ _ (sym c.in_err-take.ensures.found))

pub returns : goal.returns
returns c =
    let t = c.in_ok-take.ensures in
    let a = c.alone.ensures in
    c.size.ensures
    ∙ both_size (both_of c.alone.result) _ (model_of c.args.file.now) _
    ∙ rw (a.0, a.1 ∙ t.same, a.2, a.3 ∙ t.same) (ap (λ w. map_answer length (fitted 18446744073709551615 w)) (export_given _ _ _ _ (sym t.found)))
