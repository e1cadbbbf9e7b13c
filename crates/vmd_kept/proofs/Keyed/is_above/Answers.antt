-- `vmd_kept::Keyed::is_above` meets its contract. Assumes nothing.
use mathlib.Core.Path.{refl}
use Rattle.vmd_kept.specs.Keyed.{kept_key}
use Rattle.vmd_kept.specs.Window.{above}
use Rattle.vmd_kept.proofs.WindowLaws.{above_cmp}
use Rattle.vmd_kept.proofs.Keyed.is_above.Goals as goal

pub returns-in-None : goal.returns-in-None
unfolding above
returns-in-None c = rw c.in-None.is refl

pub returns-in-Some : goal.returns-in-Some
returns-in-Some c = rw c.in-Some.is (above_cmp (kept_key c.args.self) c.in-Some.f c.args.x c.key_cmp.ensures c.is_lt.ensures)
