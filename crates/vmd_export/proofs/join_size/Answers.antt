-- `vmd_export::join_size` meets its contract. Assumes nothing.
use mathlib.Core.Path.{refl, sym, ap, ◌∙◌}
use lib.ListN.{length}
use Rattle.vmd_format.specs.Answer.{map_answer, fitted}
use Rattle.vmd_format.specs.Take.{newer}
use Rattle.vmd_format.specs.Fetch.{model_of}
use Rattle.vmd_format.specs.Join.{joined_model}
use Rattle.vmd_output.proofs.Saves.{refused_answer}
use Rattle.vmd_base.proofs.Refused.{handed_on}
use Rattle.vmd_export.proofs.Laws.{both_of, both_size, join_refused, join_given}
use Rattle.vmd_export.proofs.join_size.Goals as goal

pub returns-in_err-both : goal.returns-in_err-both
returns-in_err-both c =
    handed_on _ _ _ c.from_residual.ensures.1 ∙ refused_answer _ _ _ (join_refused _ _ _ _ (sym c.in_err-both.ensures.found))

pub returns : goal.returns
returns c =
    let b = c.in_ok-both in
    c.size.ensures
    ∙ both_size (both_of b.both) newer (joined_model (model_of c.args.first.now) (model_of c.args.second.now)) _
    ∙ rw (b.ensures.same.0, b.ensures.same.1) (ap (λ w. map_answer length (fitted 18446744073709551615 w)) (join_given _ _ _ _ _ _ (sym b.ensures.found) refl))
