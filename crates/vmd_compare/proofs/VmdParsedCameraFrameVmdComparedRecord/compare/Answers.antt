-- `vmd_compare::VmdParsedCameraFrame::compare` meets its contract. Assumes nothing.
use mathlib.Core.Path.{sym, ◌∙◌}
use Rattle.vmd_form.specs.RowLaws.{camera_is}
use Rattle.vmd_compare.proofs.VmdParsedCameraFrameVmdComparedRecord.compare.Goals as goal

-- The place after the flag is the one after the camera.
pub returns : goal.returns
returns c = c.compare_flag.ensures ∙ sym (camera_is c.args.file.now c.args.at c.requires)
