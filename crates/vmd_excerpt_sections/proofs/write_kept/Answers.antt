use Prim.Native.Nat.{◌+◌, ◌-◌, ◌*◌, ◌≤◌}
use native.Mathlib.Omega.{arith}
use lib.ListN.{drop}
use Rattle.vmd_records.specs.KindLaws.{kind_sized}
use Rattle.vmd_records.specs.Kinds.{layout, size_of}
use Rattle.vmd_laws.specs.PlacesLaws.{table_length}
use Rattle.vmd_laws.specs.SizedLaws.{table_none}
use Rattle.vmd_excerpt_sections.specs.RowLaws.{rows_few, fewer, table_split, not_below, keeping_start, keeping_room, keeping_more, keeping_kept, keeping_dropped, keeping_end}
use Rattle.vmd_excerpt_sections.specs.Rows.{framed, rows, kept_rows}
use Rattle.vmd_excerpt_sections.proofs.write_kept.Goals as goal
use Rattle.vmd_excerpt_sections.proofs.write_kept.Goals.{then-on, else-on}

pub loop-left-init : goal.loop-left-init
unfolding kept_rows
loop-left-init c = (c.size-size.ensures, c.args.records.inside.ends, keeping_start c.requires)

pub write_run-q-requires : goal.write_run-q-requires
write_run-q-requires c = let k = c.args.records.kind in
    let s = c.args.records.file.now in
    let n = c.run_length-n.result in
    let m : n ≤ c.loop-left.left = omega (arith, c.min.ensures, c.run_length-n.ensures.1) in
    let h = rw c.if-on.true at c.run_length-n.ensures.2 in (
      omega (arith, c.loop-left.invariant.1, fewer (size_of k) n c.loop-left.left m),
      not_below (framed k) c.args.span.first c.args.span.last (rows k s n c.loop-left.p) h,
      keeping_room (rows k s n c.loop-left.p) (rows k s (c.loop-left.left - n) (c.loop-left.p + n * size_of k)) c.loop-left.invariant.2 (table_split (kind_sized k) n c.loop-left.left c.loop-left.p s m) h,
    )

pub overflow_add-kept : goal.overflow_add-kept
unfolding kept_rows
overflow_add-kept c = let k = c.args.records.kind in
    let s = c.args.records.file.now in
    let n = c.run_length-n.result in
    let m : n ≤ c.loop-left.left = omega (arith, c.min.ensures, c.run_length-n.ensures.1) in
    let h = rw c.if-on.true at c.run_length-n.ensures.2 in
    omega (
      arith,
      keeping_more (rows k s n c.loop-left.p) (rows k s (c.loop-left.left - n) (c.loop-left.p + n * size_of k)) c.loop-left.invariant.2 (table_split (kind_sized k) n c.loop-left.left c.loop-left.p s m) h n (table_length (layout k) n (drop c.loop-left.p s)),
      rows_few k c.args.span.first c.args.span.last s c.args.records.section.count c.args.records.section.place,
    )

pub loop-left-preserved : goal.loop-left-preserved
loop-left-preserved c = let k = c.args.records.kind in
    let s = c.args.records.file.now in
    let n = c.run_length-n.result in
    let m : n ≤ c.loop-left.left = omega (arith, c.min.ensures, c.run_length-n.ensures.1) in
    let z = c.loop-left.invariant.0 in
    let t = table_split (kind_sized k) n c.loop-left.left c.loop-left.p s m in
    let others = rows k s (c.loop-left.left - n) (c.loop-left.p + n * size_of k) in (
      z,
      rw z (omega (arith, c.loop-left.invariant.1, fewer (size_of k) n c.loop-left.left m)),
      rw z (
          elim c.if-on.branch [
            | then-on w ↦ rw (w.out-is, w.q-is, w.kept-is) (keeping_kept (rows k s n c.loop-left.p) others c.loop-left.invariant.2 t (rw w.if-on.true at c.run_length-n.ensures.2) n (table_length (layout k) n (drop c.loop-left.p s)) w.write_run-q.ensures)
            | else-on w ↦ rw (w.out-is, w.q-is, w.kept-is) (keeping_dropped (rows k s n c.loop-left.p) others c.loop-left.invariant.2 t (rw w.if-on.false at c.run_length-n.ensures.2))
          ]),
    )

pub returns : goal.returns
unfolding kept_rows
returns c = keeping_end c.loop-left.invariant.2 (table_none (layout c.args.records.kind) c.loop-left.left (drop c.loop-left.p c.args.records.file.now) (omega arith))
