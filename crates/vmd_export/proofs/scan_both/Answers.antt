-- `vmd_export::scan_both` meets its contract. Assumes nothing.
use mathlib.Core.Path.{sym, ◌∙◌}
use native.Mathlib.Omega.{arith}
use Rattle.vmd_base.proofs.Refused.{handed_on}
use Rattle.vmd_export.proofs.Laws.{first_refused, second_refused, both_over, both_found, both_sums}
use Rattle.vmd_export.proofs.scan_both.Goals as goal

pub returns-in_err-a-clause-found : goal.returns-in_err-a-clause-found
returns-in_err-a-clause-found c =
    handed_on _ _ _ c.from_residual.ensures.1 ∙ first_refused _ _ _ _ (sym c.in_err-a.ensures.found)

pub returns-in_err-b-clause-found : goal.returns-in_err-b-clause-found
returns-in_err-b-clause-found c =
    handed_on _ _ _ c.from_residual-in_err-b.ensures.1
    ∙ second_refused _ _ _ _ _ (sym c.in_ok-a.ensures.found) (sym c.in_err-b.ensures.found)

pub invariant_of-result : goal.invariant_of-result
invariant_of-result c =
    let a = c.in_ok-a in
    let b = c.in_ok-b in
    record {
      sums =
          both_sums _ _ _ _ (sym c.sums_fit.ensures ∙ c.if-sums_fit.true) a.a.scanned b.b.scanned (rw a.ensures.same (omega arith))
          (rw b.ensures.same (omega arith));
    }

pub returns-then-sums_fit-clause-found : goal.returns-then-sums_fit-clause-found
returns-then-sums_fit-clause-found c =
    both_found _ _ _ _ _ (sym c.in_ok-a.ensures.found) (sym c.in_ok-b.ensures.found) (sym c.sums_fit.ensures ∙ c.if-sums_fit.true)

pub returns-clause-found : goal.returns-clause-found
returns-clause-found c =
    both_over _ _ _ _ _ (sym c.in_ok-a.ensures.found) (sym c.in_ok-b.ensures.found) (sym c.sums_fit.ensures ∙ c.if-sums_fit.false)
