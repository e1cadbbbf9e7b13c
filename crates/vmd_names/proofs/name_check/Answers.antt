-- `vmd_names::name_check` meets its contract. Assumes nothing.
use native.Mathlib.Omega.{arith}
use Rattle.vmd_names.proofs.Names.{name_long, name_zero, name_rest}
use Rattle.vmd_names.proofs.name_check.Goals as goal
use Rattle.vmd_names.proofs.name_check.Goals.{then-width-bytes-via-then-width-bytes, then-width-bytes-via-else-width-bytes+then-trim_fixed_bytes-bytes}

pub returns-then-width-bytes : goal.returns-then-width-bytes
returns-then-width-bytes c =
    elim c.then-width-bytes.branch [
      | then-width-bytes-via-then-width-bytes w ↦ name_long _ _ (omega arith)
      | then-width-bytes-via-else-width-bytes+then-trim_fixed_bytes-bytes w ↦ name_zero _ _ (omega arith) w.trim_fixed_bytes.ensures w.if-trim_fixed_bytes-bytes.true
    ]

pub returns : goal.returns
returns c =
    name_rest _ _ (omega arith) c.trim_fixed_bytes.ensures c.if-trim_fixed_bytes-bytes.false c.fault_by.ensures c.need.ensures
