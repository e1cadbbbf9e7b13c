-- `vmd_output::write_count` meets its contract. Assumes nothing.
use native.Mathlib.Omega.{arith}
use Rattle.vmd_bytes.proofs.Laws.{length_u32_bytes}
use Rattle.vmd_output.proofs.write_count.Goals as goal

pub write_u32_le-requires : goal.write_u32_le-requires
write_u32_le-requires c =
    omega (arith, c.requires.room, length_u32_bytes c.args.n)

pub returns : goal.returns
returns c =
    record { holds = c.write_u32_le.ensures; ends = omega (arith, length_u32_bytes c.args.n) }
