-- `vmd_reader::property_frame_at` meets its contract. Assumes nothing.
use mathlib.Core.Path.{sym, ◌∙◌}
use Rattle.vmd_base.proofs.Refused.{handed_on}
use Rattle.vmd_reader.proofs.Laws.{step_refused, step_found}
use Rattle.vmd_reader.proofs.property_frame_at.Goals as goal

pub returns-in_err-next : goal.returns-in_err-next
returns-in_err-next c = handed_on _ _ _ c.from_residual.ensures.1 ∙ step_refused _ _ _ (sym c.in_err-next.ensures)

pub returns : goal.returns
returns c = step_found _ _ _ _ _ (sym c.in_ok-next.ensures) c.bytes_from.ensures c.from_bytes-frame.ensures
