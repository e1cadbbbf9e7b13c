-- `vmd_parts::build_vmd_animation_from_parts` meets its contract. Assumes nothing.
use mathlib.Core.Path.{sym, ◌∙◌}
use Rattle.vmd_bytes.proofs.Writes.{rest_room, rest_then, rest_done}
use Rattle.vmd_base.proofs.Refused.{handed_on}
use Rattle.vmd_parts.proofs.File.{bones_fit, morphs_fit, records_fit, built_refused, built_over, built_rest, built_wrote}
use Rattle.vmd_parts.proofs.Size.{checked, small}
use Rattle.vmd_parts.proofs.build_vmd_animation_from_parts.Goals as goal

pub parts_size-requires : goal.parts_size-requires
parts_size-requires c = small _ (checked _ (sym c.in_ok-parts_check.ensures))

pub write_front-to-requires : goal.write_front-to-requires
write_front-to-requires c =
    let e = sym c.in_ok-parts_check.ensures in
    let k = checked _ e in
    record {
      bones_fit = bones_fit k;
      morphs_fit = morphs_fit k;
      few = ((small _ k).0, (small _ k).1);
      room = rest_room _ (built_rest _ e _ c.in_ok-_size.ensures);
    }

pub write_back-end-requires : goal.write_back-end-requires
write_back-end-requires c =
    let e = sym c.in_ok-parts_check.ensures in
    (records_fit (checked _ e), (rest_then _ (built_rest _ e _ c.in_ok-_size.ensures) c.write_front-to.ensures).room)

pub returns-in_err-parts_check : goal.returns-in_err-parts_check
returns-in_err-parts_check c =
    let whole = built_refused _ _ (sym c.in_err-parts_check.ensures) in
    record { result_value = handed_on _ _ _ c.from_residual.ensures.1 ∙ whole.0; out_after = whole.1 }

pub returns-in_err-_size : goal.returns-in_err-_size
returns-in_err-_size c =
    let whole = built_over _ (sym c.in_ok-parts_check.ensures) c.in_err-_size.ensures in
    record { result_value = handed_on _ _ _ c.from_residual-in_err-_size.ensures.1 ∙ whole.0; out_after = whole.1 }

pub returns : goal.returns
returns c =
    let e = sym c.in_ok-parts_check.ensures in
    let h = c.in_ok-_size.ensures in
    let wrote = rest_done (rest_then _ (built_rest _ e _ h) c.write_front-to.ensures) c.write_back-end.ensures in
    let whole = built_wrote _ e _ h wrote in
    record { result_value = whole.0; out_after = whole.1 }
