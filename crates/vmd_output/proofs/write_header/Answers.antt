-- `vmd_output::write_header` meets its contract. Assumes nothing.
use native.Mathlib.Omega.{arith}
use Rattle.vmd_output.proofs.Laws.{header_room, header_wrote}
use Rattle.vmd_output.proofs.write_header.Goals as goal

pub write_magic-requires : goal.write_magic-requires
write_magic-requires c = omega (arith, header_room _ _ c.requires)

pub write_fixed_bytes-requires : goal.write_fixed_bytes-requires
write_fixed_bytes-requires c =
    omega (arith, header_room _ _ c.requires, c.model_width-width.ensures.value, c.write_magic.auto.out)

pub returns : goal.returns
returns c =
    rw c.model_width-width.ensures.value (header_wrote _ _ c.requires c.write_magic.ensures (rw c.model_width-width.ensures.value at c.write_fixed_bytes.ensures))
