-- `vmd_canonical::is_canonical_file` meets its contract. Assumes nothing.
use mathlib.Core.Path.{sym, ap, ◌∙◌}
use Rattle.std.specs.Prelude.{ℕ, ◌≡◌, refl, Bool, true, false, not, Option, Some, None, is_some}
use Rattle.vmd_form.proofs.ChangeLaws.{is_nowhere, canonical_change}
use Rattle.vmd_base.specs.Meaning.{manner_of}
use Rattle.vmd_base.proofs.Refused.{handed_on}
use Rattle.std.specs.Prelude.{ℕ, ◌≡◌, refl, Bool, true, false, not, Option, Some, None, is_some}
use Rattle.vmd_format.specs.Answer.{given, map_answer}
use Rattle.vmd_canonical.specs.Meaning.{change_is}
use Rattle.vmd_canonical.proofs.is_canonical_file.Goals as goal

is_none_there : (change : Option ℕ) (none : Bool) → is_some change ≡ not none → none ≡ is_nowhere (change_is change)
unfolding is_nowhere
is_none_there None true h = refl
is_none_there None false h = h
is_none_there (Some n) true h = h
is_none_there (Some n) false h = refl

pub returns-in_err-change : goal.returns-in_err-change
unfolding map_answer is_nowhere
returns-in_err-change c =
    handed_on _ _ _ c.from_residual.ensures.1
    ∙ sym (canonical_change (manner_of c.args.manner) c.args.file.now ∙ ap (map_answer is_nowhere) (sym c.in_err-change.ensures))

pub returns : goal.returns
unfolding map_answer is_nowhere
returns c =
    ap given (is_none_there _ _ c.is_none.ensures)
    ∙ sym (canonical_change (manner_of c.args.manner) c.args.file.now ∙ ap (map_answer is_nowhere) (sym c.in_ok-change.ensures))
