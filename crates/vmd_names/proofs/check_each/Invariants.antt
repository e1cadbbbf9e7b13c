-- `vmd_names::check_each` meets its contract: of any function that says what the checks find. Assumes nothing.
use Prim.Native.Nat.{ℕ, ◌<◌}
use mathlib.Core.Path.{◌≡◌}
use Rattle.vmd_format.specs.Parts.{Check}
use Rattle.vmd_names.specs.Meaning.{check_of}
use Rattle.vmd_names.proofs.Checks.{Turning}
use Rattle.vmd_names.proofs.check_each.Given as goal

abbrev pub invariant-loop-i : goal.invariant-loop-i
invariant-loop-i g l =
    (f : ℕ → Check) → ((i : ℕ) (r : _) → i < l.n → goal.F-post g l.check i r → check_of r ≡ f i) → Turning f l.n l.i
