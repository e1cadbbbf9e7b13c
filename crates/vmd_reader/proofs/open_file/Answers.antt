-- `vmd_reader::open_file` meets its contract. Assumes nothing.
use mathlib.Core.Path.{sym, ◌∙◌}
use Rattle.vmd_base.proofs.Refused.{handed_on}
use Rattle.vmd_reader.proofs.Laws.{open_refused, open_scanned, scratch_refused, scratch_scanned}
use Rattle.vmd_reader.proofs.open_file.Goals as goal

pub returns-in_err-take : goal.returns-in_err-take
returns-in_err-take c =
    let e = sym c.in_err-take.ensures.found in
    record {
      result_value = handed_on _ _ _ c.from_residual.ensures.1 ∙ open_refused _ _ _ _ e;
      scratch_left = scratch_refused _ _ _ _ e;
    }

pub returns : goal.returns
returns c =
    let e = sym c.in_ok-take.ensures.found in
    record {
      result_value = rw c.in_ok-take.ensures.same at c.open_scanned.ensures.result_value ∙ open_scanned _ _ _ _ e;
      scratch_left = rw c.in_ok-take.ensures.same at c.open_scanned.ensures.scratch_left ∙ scratch_scanned _ _ _ _ e;
    }
