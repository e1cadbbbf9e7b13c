-- `vmd_reader::ik_state` meets its contract. Assumes nothing.
use mathlib.Core.Path.{sym, ◌∙◌}
use Rattle.vmd_records.specs.Fields.{ik_fields}
use Rattle.vmd_base.proofs.Refused.{handed_on}
use Rattle.vmd_reader.proofs.Laws.{found, refused, ik_read}
use Rattle.vmd_reader.proofs.ik_state.Goals as goal

pub returns-in_err-at : goal.returns-in_err-at
returns-in_err-at c =
    handed_on _ _ _ c.from_residual.ensures.1 ∙ refused (ik_read _ _ _ _ _) ik_fields _ (sym c.in_err-at.ensures)

pub returns : goal.returns
returns c =
    found (ik_read _ _ _ _ _) ik_fields _ _ _ (sym c.in_ok-at.ensures) c.bytes_from.ensures c.from_bytes.ensures
