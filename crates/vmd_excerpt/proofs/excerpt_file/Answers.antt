-- `vmd_excerpt::excerpt_file` meets its contract. Assumes nothing.
use mathlib.Core.Path.{sym, ◌∙◌}
use Rattle.vmd_base.proofs.Refused.{handed_on}
use Rattle.vmd_output.proofs.Saves.{same_saved, saves_nothing}
use Rattle.vmd_excerpt.proofs.excerpt_file.Goals as goal

pub returns-in_err-piece : goal.returns-in_err-piece
returns-in_err-piece c =
    let whole = saves_nothing _ _ _ (sym c.in_err-piece.ensures) in
    record { result_value = handed_on _ _ _ c.from_residual.ensures.1 ∙ whole.0; out_after = whole.1 }

pub returns : goal.returns
returns c =
    let whole = same_saved _ c.in_ok-piece.ensures (c.write.ensures.result_value, c.write.ensures.out_after) in
    record { result_value = whole.0; out_after = whole.1 }
