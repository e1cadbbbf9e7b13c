-- `vmd_places::bytes_of` meets its contract. Assumes nothing.
use mathlib.Core.Path.{refl}
use native.Mathlib.Omega.{arith}
use Rattle.vmd_format.specs.Answer.{map_answer}
use Rattle.vmd_format.specs.Fetch.{or_empty}
use Rattle.vmd_places.specs.Parts.{part_in, there}
use Rattle.vmd_places.proofs.Parts.{bytes_length}
use Rattle.vmd_places.proofs.bytes_of.Goals as goal

pub overflow_add-at : goal.overflow_add-at
overflow_add-at c =
    omega (arith, rw c.in-Ok.is at c.requires)

pub returns-in-Err : goal.returns-in-Err
unfolding part_in
returns-in-Err c = rw c.in-Err.is refl

pub returns-in-Ok : goal.returns-in-Ok
unfolding part_in there map_answer or_empty
returns-in-Ok c =
    let h = rw c.in-Ok.is at c.requires in
    rw (c.in-Ok.is, bytes_length c.args.file.now _ c.args.n h) c.file_part.ensures
