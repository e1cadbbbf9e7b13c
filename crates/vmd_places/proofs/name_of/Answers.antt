-- `vmd_places::name_of` meets its contract. Assumes nothing.
use mathlib.Core.Path.{refl}
use native.Mathlib.Nat.{add-zero}
use Rattle.vmd_format.specs.Answer.{map_answer}
use Rattle.vmd_format.specs.Fetch.{or_empty}
use Rattle.vmd_places.specs.Parts.{part_in, there}
use Rattle.vmd_places.proofs.name_of.Goals as goal

pub name_at-requires : goal.name_at-requires
name_at-requires c =
    rw c.in-Ok.is at c.requires

pub returns-in-Err : goal.returns-in-Err
unfolding part_in
returns-in-Err c = rw c.in-Err.is refl

pub returns-in-Ok : goal.returns-in-Ok
unfolding part_in there map_answer or_empty
returns-in-Ok c =
    rw (c.in-Ok.is, add-zero c.in-Ok.at) c.name_at.ensures
