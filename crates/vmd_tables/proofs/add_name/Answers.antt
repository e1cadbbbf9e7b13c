-- `vmd_tables::add_name` meets its contract. Assumes nothing.
use Prim.Native.Nat.{◌+◌}
use mathlib.Core.Path.{ap}
use native.Mathlib.Omega.{arith}
use lib.ListN.{length}
use Rattle.vmd_tables.proofs.Numbering.{trimmed, copied}
use Rattle.vmd_tables.proofs.add_name.Goals as goal

pub copy_bytes-requires : goal.copy_bytes-requires
copy_bytes-requires c =
    let e = ap length (trimmed c.args.s.now c.args.p c.trim_fixed_bytes-name.ensures) in
    (omega arith, omega arith)

pub returns : goal.returns
returns c = (
  copied c.args.s.now c.args.p c.args.bytes.now c.args.to c.trim_fixed_bytes-name.ensures c.copy_bytes.ensures,
  ap (λ l. c.args.to + length l) (trimmed c.args.s.now c.args.p c.trim_fixed_bytes-name.ensures),
)
