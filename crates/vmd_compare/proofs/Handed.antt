-- What a `?` hands on: the difference as it is. Assumes nothing.
use mathlib.Core.Path.{◌≡◌, ap}
use Rattle.std.specs.Prelude.{ℕ, Result, Ok, Err}
use Rattle.std.specs.Result.{IsErrAnd}
use Rattle.vmd_form.specs.Compare.{differs}
use Rattle.vmd_compare.specs.declared.VmdDifference.{VmdDifference}
use Rattle.vmd_compare.specs.Meaning.{compared_is}

pub handed_on : (r : Result ℕ VmdDifference) (d : VmdDifference) → IsErrAnd r (λ e. e ≡ d) → compared_is r ≡ differs d.at
handed_on (Ok at) d h = absurd h
handed_on (Err e) d h = ap (λ (e : VmdDifference). differs e.at) h
