-- `vmd_records::VmdParsedPropertyFrame::from_bytes` meets its contract, field by field. Assumes nothing.
use lib.Seq.{get_or-drop}
use Rattle.vmd_records.proofs.Opened.{opened}
use Rattle.vmd_records.proofs.VmdParsedPropertyFrameVmdRecord.from_bytes.Goals as goal

pub returns : goal.returns
unfolding opened
returns c = simp get_or-drop (cc)
