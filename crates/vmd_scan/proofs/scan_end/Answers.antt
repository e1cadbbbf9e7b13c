-- `vmd_scan::scan_end` meets its contract. Assumes nothing.
use mathlib.Core.Path.{ap, ◌∙◌}
use Rattle.vmd_laws.specs.Places.{over_if}
use Rattle.vmd_base.proofs.Refused.{first_refused, first_given}
use Rattle.vmd_scan.specs.Stages.{scan_end}
use Rattle.vmd_scan.proofs.scan_end.Goals as goal

pub returns-in_err-walk : goal.returns-in_err-walk
unfolding scan_end
returns-in_err-walk c = first_refused _ _ _ _ c.from_residual.ensures.1 c.in_err-walk.ensures

pub returns : goal.returns
unfolding scan_end
returns c =
    first_given _ _ c.in_ok-walk.ensures (rw (← c.over_in.ensures) (c.ended_at.ensures ∙ ap (over_if _ _) c.all_sections-sections.ensures))
