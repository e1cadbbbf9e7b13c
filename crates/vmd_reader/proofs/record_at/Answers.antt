-- `vmd_reader::record_at` meets its contract, for every record type. Assumes nothing.
use mathlib.Core.Path.{sym, ◌∙◌}
use Rattle.vmd_base.proofs.Refused.{handed_on}
use Rattle.vmd_reader.proofs.Laws.{found, refused, record_read}
use Rattle.vmd_reader.proofs.record_at.Goals as goal

pub returns-in_err-at : goal.returns-in_err-at
returns-in_err-at g c =
    let r = record_read g.R.VmdRecord.layout _ (g.met.R.VmdRecord.sized.size ∙ sym c.SIZE.ensures) _ _ _ in
    handed_on _ _ _ c.from_residual.ensures.1 ∙ refused r g.R.VmdRecord.fields _ (sym c.in_err-at.ensures)

pub returns : goal.returns
returns g c =
    let r = record_read g.R.VmdRecord.layout _ (g.met.R.VmdRecord.sized.size ∙ sym c.SIZE.ensures) _ _ _ in
    found r g.R.VmdRecord.fields _ _ _ (sym c.in_ok-at.ensures) c.bytes_from.ensures c.from_bytes.ensures
