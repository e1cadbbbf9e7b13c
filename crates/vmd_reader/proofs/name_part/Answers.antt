-- `vmd_reader::name_part` meets its contract, for every record type. Assumes nothing.
use native.Mathlib.Omega.{arith}
use Rattle.vmd_places.proofs.Places.{record_holds, name_holds}
use Rattle.vmd_reader.proofs.name_part.Goals as goal

pub name_of-requires : goal.name_of-requires
name_of-requires g c =
    name_holds c.args.file.now c.place_of-place.ensures (record_holds c.SIZE.result _ _ _) c.args.width (omega (arith, c.SIZE.ensures, c.requires))

pub returns : goal.returns
returns g c = rw (← c.SIZE.ensures, ← c.place_of-place.ensures) c.name_of.ensures
