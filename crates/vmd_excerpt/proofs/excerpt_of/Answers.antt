-- `vmd_excerpt::excerpt_of` meets its contract. Assumes nothing.
use mathlib.Core.Path.{sym, ◌∙◌}
use native.Mathlib.Omega.{arith}
use Rattle.vmd_base.specs.Meaning.{manner_of}
use Rattle.vmd_base.proofs.Refused.{handed_on}
use Rattle.vmd_excerpt.proofs.StageLaws.{file_above, file_refused, file_scanned}
use Rattle.vmd_excerpt.proofs.excerpt_of.Goals as goal

pub returns-then-last-first : goal.returns-then-last-first
returns-then-last-first c =
    let a = c.args in
    sym (file_above (manner_of a.manner) a.first a.last a.file.now (omega arith))

pub returns-in_err-take : goal.returns-in_err-take
returns-in_err-take c =
    let a = c.args in
    handed_on _ _ _ c.from_residual.ensures.1
    ∙ sym (file_refused (manner_of a.manner) a.first a.last a.file.now (omega arith) _ (sym c.in_err-take.ensures.found))

pub returns : goal.returns
returns c =
    let a = c.args in
    let t = c.in_ok-take.ensures in
    rw t.same (file_scanned (manner_of a.manner) a.first a.last a.file.now (omega arith) _ (sym t.found))
