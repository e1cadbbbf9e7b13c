-- `vmd_records::VmdParsedCameraFrame::from_bytes` meets its contract, field by field: drops in a row are one drop. Assumes nothing.
use lib.Seq.{drop-drop, get_or-drop}
use Rattle.vmd_records.proofs.Opened.{opened}
use Rattle.vmd_records.proofs.VmdParsedCameraFrameVmdRecord.from_bytes.Goals as goal

pub returns : goal.returns
unfolding opened
returns c = simp (drop-drop, get_or-drop) (cc)
