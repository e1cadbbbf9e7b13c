-- `vmd_excerpt::VmdExcerpt::write` meets its contract. Assumes nothing.
use mathlib.Core.Path.{refl, ◌∙◌}
use Rattle.vmd_base.proofs.Refused.{handed_on}
use Rattle.vmd_bytes.proofs.Writes.{rest_room, rest_then, rest_done}
use Rattle.vmd_output.proofs.Saves.{saves_over, saves_room, saves_wrote}
use Rattle.vmd_excerpt.proofs.StageLaws.{file_rest}
use Rattle.vmd_excerpt.proofs.VmdExcerpt.write.Goals as goal

pub returns-in_err-fit : goal.returns-in_err-fit
returns-in_err-fit c =
    let whole = saves_over _ refl _ c.in_err-fit.ensures in
    record { result_value = handed_on _ _ _ c.from_residual.ensures.1 ∙ whole.0; out_after = whole.1 }

pub write_header-to-requires : goal.write_header-to-requires
write_header-to-requires c =
    rest_room _ (file_rest _ _ _ _ (saves_room _ refl _ c.in_ok-fit.ensures) _ c.model_name-model.ensures)

pub write_front-p-requires : goal.write_front-p-requires
write_front-p-requires c =
    let r = file_rest _ _ _ _ (saves_room _ refl _ c.in_ok-fit.ensures) _ c.model_name-model.ensures in
    rest_room _ (rest_then _ r c.write_header-to.ensures)

pub write_back-end-requires : goal.write_back-end-requires
write_back-end-requires c =
    let r = file_rest _ _ _ _ (saves_room _ refl _ c.in_ok-fit.ensures) _ c.model_name-model.ensures in
    (rest_then _ (rest_then _ r c.write_header-to.ensures) c.write_front-p.ensures).room

pub returns : goal.returns
returns c =
    let h = saves_room _ refl _ c.in_ok-fit.ensures in
    let r = file_rest _ _ _ _ h _ c.model_name-model.ensures in
    let whole = saves_wrote h (rest_done (rest_then _ (rest_then _ r c.write_header-to.ensures) c.write_front-p.ensures) c.write_back-end.ensures) in
    record { result_value = whole.0; out_after = whole.1 }
