-- `vmd_reader::bytes_part` meets its contract, for every record type. Assumes nothing.
use native.Mathlib.Omega.{arith}
use Rattle.vmd_places.proofs.Places.{record_holds, bytes_hold}
use Rattle.vmd_reader.proofs.bytes_part.Goals as goal

pub bytes_of-requires : goal.bytes_of-requires
bytes_of-requires g c =
    bytes_hold c.args.file.now c.place_of-place.ensures (record_holds c.SIZE.result _ _ _) c.args.offset c.args.n (omega (arith, c.SIZE.ensures, c.requires))

pub returns : goal.returns
returns g c = rw (← c.SIZE.ensures, ← c.place_of-place.ensures) c.bytes_of.ensures
