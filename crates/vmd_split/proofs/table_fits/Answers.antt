-- `vmd_split::table_fits` meets its contract. Assumes nothing.
use Prim.Native.Nat.{◌*◌}
use native.Mathlib.Omega.{arith}
use borrow.Author.Tests.{le-leb, lt-leb}
use Rattle.vmd_base.specs.Meaning.{extent_is}
use Rattle.vmd_split.proofs.Laws.{counted}
use Rattle.vmd_split.proofs.Names.{always_room}
use Rattle.vmd_split.specs.Stages.{table_room}
use Rattle.vmd_split.proofs.table_fits.Goals as goal

pub returns-then-most-le-LARGEST_TABLE : goal.returns-then-most-le-LARGEST_TABLE
returns-then-most-le-LARGEST_TABLE c =
    let n = c.args.section.count in
    always_room _ _ _ n (λ k. omega (arith, c.type_inv.file k)) _ _
    (rw (le-leb n c.args.ends (omega arith), le-leb (15 * n) c.args.bytes (omega arith), le-leb (15 * n) 4294967295 (omega arith)))

pub returns-then-size-gt-LARGEST_TABLE : goal.returns-then-size-gt-LARGEST_TABLE
unfolding table_room
returns-then-size-gt-LARGEST_TABLE c =
    let k = counted _ (extent_is c.args.section) _ c.count_names-table.ensures in
    rw (← k.bytes_are, lt-leb c.count_names-table.result.bytes 4294967295 (omega arith))

pub returns-then-size-bytes : goal.returns-then-size-bytes
unfolding table_room
returns-then-size-bytes c =
    let k = counted _ (extent_is c.args.section) _ c.count_names-table.ensures in
    rw (← k.bytes_are, ← k.names_are, le-leb c.count_names-table.result.bytes 4294967295 (omega arith), le-leb c.count_names-table.result.bytes c.args.bytes (omega arith))

pub returns-else-size-bytes : goal.returns-else-size-bytes
unfolding table_room
returns-else-size-bytes c =
    let k = counted _ (extent_is c.args.section) _ c.count_names-table.ensures in
    rw (← k.bytes_are, le-leb c.count_names-table.result.bytes 4294967295 (omega arith), lt-leb c.count_names-table.result.bytes c.args.bytes (omega arith))
