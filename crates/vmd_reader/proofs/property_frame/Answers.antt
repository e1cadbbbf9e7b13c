-- `vmd_reader::property_frame` meets its contract. Assumes nothing.
use mathlib.Core.Path.{sym, ◌∙◌}
use Rattle.vmd_records.specs.Fields.{property_fields}
use Rattle.vmd_base.proofs.Refused.{handed_on}
use Rattle.vmd_reader.proofs.Laws.{found, refused, property_read}
use Rattle.vmd_reader.proofs.property_frame.Goals as goal

pub returns-in_err-at : goal.returns-in_err-at
returns-in_err-at c =
    handed_on _ _ _ c.from_residual.ensures.1 ∙ refused (property_read _ _ _ _) property_fields _ (sym c.in_err-at.ensures)

pub returns : goal.returns
returns c =
    found (property_read _ _ _ _) property_fields _ _ _ (sym c.in_ok-at.ensures) c.bytes_from.ensures c.from_bytes.ensures
