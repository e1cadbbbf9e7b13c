-- `vmd_kept::Keyed::is_between` meets its contract. Assumes nothing.
use mathlib.Core.Path.{sym, ◌∙◌}
use Rattle.vmd_count.proofs.HeldLaws.{bound_none, bound_some}
use Rattle.vmd_kept.specs.Keyed.{kept_key}
use Rattle.vmd_kept.proofs.WindowLaws.{between_out, between_free, between_under}
use Rattle.vmd_kept.proofs.Keyed.is_between.Goals as goal

pub returns-else-is_above : goal.returns-else-is_above
returns-else-is_above c =
    c.if-is_above.false ∙ between_out (kept_key c.args.self) _ _ _ (sym c.is_above.ensures ∙ c.if-is_above.false)

pub returns-then-is_none : goal.returns-then-is_none
returns-then-is_none c =
    c.if-is_none.true
    ∙ between_free (kept_key c.args.self) _ _ _ (sym c.is_above.ensures ∙ c.if-is_above.true) (bound_none _ _ c.is_none.ensures c.if-is_none.true)

pub returns-else-is_none : goal.returns-else-is_none
returns-else-is_none c =
    between_under (kept_key c.args.self) _ _ _ (sym c.is_above.ensures ∙ c.if-is_above.true)
    (bound_some _ _ c.is_none.ensures c.if-is_none.false) _ c.is_above-else-is_none.ensures
