-- `vmd_reader::ik_name_part` meets its contract. Assumes nothing.
use native.Mathlib.Omega.{arith}
use Rattle.vmd_places.proofs.Places.{ik_holds, name_holds}
use Rattle.vmd_places.proofs.Fields.{ik_name_there}
use Rattle.vmd_reader.proofs.ik_name_part.Goals as goal

pub name_of-requires : goal.name_of-requires
name_of-requires c = name_holds c.args.file.now c.place_of_ik_state-place.ensures (ik_holds _ _ _ _ _) 20 (omega arith)

pub returns : goal.returns
returns c = rw (ik_name_there _ _ _ _ _, ← c.place_of_ik_state-place.ensures) c.name_of.ensures
