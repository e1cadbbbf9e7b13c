-- `vmd_export::join` meets its contract. Assumes nothing.
use mathlib.Core.Path.{sym, ◌∙◌}
use Rattle.vmd_output.proofs.Saves.{same_saved, saves_nothing}
use Rattle.vmd_base.proofs.Refused.{handed_on}
use Rattle.vmd_export.proofs.Laws.{join_refused, join_given}
use Rattle.vmd_export.proofs.join.Goals as goal

pub returns-in_err-both : goal.returns-in_err-both
returns-in_err-both c =
    let whole = saves_nothing _ _ _ (join_refused _ _ _ _ (sym c.in_err-both.ensures.found)) in
    record { result_value = handed_on _ _ _ c.from_residual.ensures.1 ∙ whole.0; out_after = whole.1 }

pub returns : goal.returns
returns c =
    let b = c.in_ok-both in
    let e = join_given _ _ _ _ _ _ (sym b.ensures.found) c.joined_model.ensures in
    let w = c.write_take.ensures in
    let f = b.ensures.same in
    let whole = same_saved _ e (rw (f.0, f.1) at w.result_value, rw (f.0, f.1) at w.out_after) in
    record { result_value = whole.0; out_after = whole.1 }
