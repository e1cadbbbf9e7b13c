-- `vmd_write_columns::write_name` meets its contract. Assumes nothing.
use Prim.Native.Nat.{ℕ}
use mathlib.Core.Path.{ap, ◌∙◌}
use mathlib.Core.List.{List}
use native.Mathlib.Omega.{arith}
use Rattle.vmd_format.specs.Bytes.{padded}
use Rattle.vmd_bytes.specs.Slices.{splice}
use Rattle.vmd_write_columns.proofs.Names.{named_from}
use Rattle.vmd_write_columns.proofs.write_name.Goals as goal

pub overflow_sub-n : goal.overflow_sub-n
overflow_sub-n c =
    (named_from _ _ _ c.requires.table c.requires.named c.requires.inside.0 c.name_start-start.ensures).begins

pub write_table_name-requires : goal.write_table_name-requires
write_table_name-requires c =
    let d = named_from _ _ _ c.requires.table c.requires.named c.requires.inside.0 c.name_start-start.ensures in
    (d.short, omega (arith, d.begins, d.within), c.requires.inside.1)

pub returns : goal.returns
returns c =
    let d = named_from _ _ _ c.requires.table c.requires.named c.requires.inside.0 c.name_start-start.ensures in
    c.write_table_name.ensures ∙ ap (λ (t : List ℕ). splice c.args.out.now c.args.to (padded 16 t)) d.is
