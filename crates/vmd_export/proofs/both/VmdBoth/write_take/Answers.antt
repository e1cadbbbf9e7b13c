-- `vmd_export::both::VmdBoth::write_take` meets its contract. Assumes nothing.
use mathlib.Core.Path.{◌∙◌}
use Rattle.vmd_base.proofs.Refused.{handed_on}
use Rattle.vmd_bytes.proofs.Writes.{rest_room, rest_then, rest_done}
use Rattle.vmd_export.proofs.Laws.{both_of, take_over, take_rest, take_wrote}
use Rattle.vmd_export.proofs.both.VmdBoth.write_take.Goals as goal

pub write_header-to-requires : goal.write_header-to-requires
write_header-to-requires c = rest_room _ (take_rest (both_of c.args.self.now) _ _ _ c.in_ok-_size.ensures)

pub write_sections-end-requires : goal.write_sections-end-requires
write_sections-end-requires c =
    (rest_then _ (take_rest (both_of c.args.self.now) _ _ _ c.in_ok-_size.ensures) c.write_header-to.ensures).room

pub returns-in_err-_size : goal.returns-in_err-_size
returns-in_err-_size c =
    let whole = take_over (both_of c.args.self.now) _ _ _ c.in_err-_size.ensures in
    record { result_value = handed_on _ _ _ c.from_residual.ensures.1 ∙ whole.0; out_after = whole.1 }

pub returns : goal.returns
returns c =
    let b = both_of c.args.self.now in
    let wrote = rest_done (rest_then _ (take_rest b _ _ _ c.in_ok-_size.ensures) c.write_header-to.ensures) c.write_sections-end.ensures in
    let whole = take_wrote b _ _ _ c.in_ok-_size.ensures wrote in
    record { result_value = whole.0; out_after = whole.1 }
