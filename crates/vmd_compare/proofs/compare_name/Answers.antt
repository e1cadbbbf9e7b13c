-- `vmd_compare::compare_name` meets its contract. Assumes nothing.
use mathlib.Core.Path.{sym, ◌∙◌}
use native.Mathlib.Omega.{arith}
use Rattle.vmd_compare.specs.NameLaws.{trimmed}
use Rattle.vmd_compare.proofs.compare_name.Goals as goal

pub overflow_sub-width : goal.overflow_sub-width
overflow_sub-width c =
    (trimmed c.args.file.now _ c.args.at c.args.width (omega arith) c.trim_fixed_bytes-n.ensures).0

pub compare_zeros-requires : goal.compare_zeros-requires
compare_zeros-requires c =
    omega (arith, (trimmed c.args.file.now _ c.args.at c.args.width (omega arith) c.trim_fixed_bytes-n.ensures).0)

pub returns : goal.returns
returns c =
    c.compare_zeros.ensures ∙ sym (trimmed c.args.file.now _ c.args.at c.args.width (omega arith) c.trim_fixed_bytes-n.ensures).1
