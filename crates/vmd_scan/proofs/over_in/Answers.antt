-- `vmd_scan::over_in` meets its contract. Assumes nothing.
use mathlib.Core.Path.{sym, ap}
use Rattle.vmd_format.specs.Read.{strict, lenient}
use Rattle.vmd_base.specs.Meaning.{manner_of}
use Rattle.vmd_scan.proofs.over_in.Goals as goal

pub returns-in-Strict : goal.returns-in-Strict
unfolding strict
returns-in-Strict c = sym (ap (λ m. (manner_of m).over) c.in-Strict.is)

pub returns-in-Lenient : goal.returns-in-Lenient
unfolding lenient
returns-in-Lenient c = sym (ap (λ m. (manner_of m).over) c.in-Lenient.is)
