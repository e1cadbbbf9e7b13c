-- `vmd_parts::write_records_section` meets its contract. Assumes nothing.
use mathlib.Core.Path.{ap}
use Prim.Native.Nat.{◌/◌}
use native.Mathlib.Omega.{arith}
use lib.ListN.{length}
use Rattle.vmd_bytes.proofs.Writes.{rest_room, rest_then, rest_done}
use Rattle.vmd_parts.proofs.File.{size_positive, filling_lies, filling_rest}
use Rattle.vmd_parts.proofs.write_records_section.Goals as goal

pub nonzero_div-n : goal.nonzero_div-n
nonzero_div-n c =
    omega (arith, size_positive c.args.kind, c.size.ensures)

pub overflow_cast-n : goal.overflow_cast-n
overflow_cast-n c =
    omega (arith, c.requires.0, ap (λ z. length c.args.src.now / z) c.size.ensures)

pub write_count-p-requires : goal.write_count-p-requires
write_count-p-requires c =
    rest_room _ (filling_rest c.args.kind c.args.src.now c.size.ensures c.requires.1)

pub write_records-requires : goal.write_records-requires
write_records-requires c =
    (filling_lies c.args.kind c.args.src.now c.size.ensures, (rest_then _ (filling_rest c.args.kind c.args.src.now c.size.ensures c.requires.1) c.write_count-p.ensures).room)

pub returns : goal.returns
returns c =
    rest_done (rest_then _ (filling_rest c.args.kind c.args.src.now c.size.ensures c.requires.1) c.write_count-p.ensures) c.write_records.ensures
