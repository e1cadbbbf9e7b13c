-- `vmd_export::export` meets its contract. Assumes nothing.
use mathlib.Core.Path.{sym, ◌∙◌}
use Rattle.vmd_output.proofs.Saves.{same_saved, saves_nothing}
use Rattle.vmd_base.proofs.Refused.{handed_on}
use Rattle.vmd_export.proofs.Laws.{export_refused, export_given}
use Rattle.vmd_export.proofs.export.Goals as goal

pub returns-in_err-take : goal.returns-in_err-take
returns-in_err-take c =
    let whole = saves_nothing _ _ _ (export_refused _ _ _ _ (sym c.in_err-take.ensures.found)) in
    record { result_value = handed_on _ _ _ c.from_residual.ensures.1 ∙ whole.0; out_after = whole.1 }

pub returns : goal.returns
returns c =
    let t = c.in_ok-take.ensures in
    let w = c.write_alone.ensures in
    let whole = same_saved _ (export_given _ _ _ _ (sym t.found)) (rw (c.model_name.ensures, t.same) at w.result_value, rw (c.model_name.ensures, t.same) at w.out_after) in
    record { result_value = whole.0; out_after = whole.1 }
