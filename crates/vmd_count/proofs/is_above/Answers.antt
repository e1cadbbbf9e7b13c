-- `vmd_count::is_above` meets its contract. Assumes nothing.
use mathlib.Core.Path.{refl}
use Rattle.vmd_keys.specs.Rowed.{row_key}
use Rattle.vmd_count.proofs.HeldLaws.{above_none, above_record}
use Rattle.vmd_count.proofs.is_above.Goals as goal

pub returns-in-None : goal.returns-in-None
returns-in-None c = rw c.in-None.is (above_none (row_key c.args.rows) 0 c.args.x refl)

pub returns-in-Some : goal.returns-in-Some
returns-in-Some c =
    rw c.in-Some.is (above_record (row_key c.args.rows) c.in-Some.f c.args.x _ c.name_before.ensures)
