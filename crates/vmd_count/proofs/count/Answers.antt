-- `vmd_count::count` meets its contract. Assumes nothing.
use mathlib.Core.Path.{refl}
use native.Mathlib.Omega.{arith}
use lib.ListN.{length}
use Rattle.vmd_keys.proofs.RowLaws.{row_top}
use Rattle.vmd_keys.specs.Rowed.{row_key}
use Rattle.vmd_count.proofs.Counts.{names_most, bytes_most, count_start, count_more, count_end}
use Rattle.vmd_count.proofs.HeldLaws.{bound_none, bound_some, floor_rises}
use Rattle.vmd_count.specs.Held.{low, one}
use Rattle.vmd_count.specs.Rowed.{bound}
use Rattle.vmd_count.proofs.count.Goals as goal

pub loop-held-init : goal.loop-held-init
loop-held-init c =
    let r = c.args.rows in
    let start = count_start r.cut r.file.now r.place r.size r.count in
    (refl, start one, start length)

pub overflow_add-names : goal.overflow_add-names
overflow_add-names c =
    let r = c.args.rows in
    omega (
      arith,
      c.tally-found.ensures.names_few,
      names_most r.cut r.file.now r.place r.size r.count (low (row_key r) (bound c.loop-held.floor)),
    )

pub overflow_add-bytes : goal.overflow_add-bytes
overflow_add-bytes c =
    let r = c.args.rows in
    omega (
      arith,
      c.tally-found.ensures.bytes_few,
      bytes_most r.cut r.file.now r.place r.size r.count r.bytes (low (row_key r) (bound c.loop-held.floor)),
    )

pub returns-then-is_none : goal.returns-then-is_none
returns-then-is_none c =
    let r = c.args.rows in
    let l = c.loop-held in
    count_end r.cut r.file.now r.place r.size r.count (bound l.floor) (bound c.pass-held.result.ceil) l.names l.bytes _ _ l.invariant.1 l.invariant.2 c.tally-found.ensures r.bytes
    (bound_none _ _ c.is_none.ensures c.if-is_none.true)

pub loop-held-smaller : goal.loop-held-smaller
loop-held-smaller c =
    let r = c.args.rows in
    floor_rises (row_key r) (bound c.loop-held.floor) (row_top r) c.pass-held.ensures.0.marked (bound_some _ _ c.is_none.ensures c.if-is_none.false)

pub loop-held-preserved : goal.loop-held-preserved
loop-held-preserved c =
    let r = c.args.rows in
    let l = c.loop-held in
    let e = count_more r.cut r.file.now r.place r.size r.count (bound l.floor) (bound c.pass-held.result.ceil) l.names l.bytes _ _ l.invariant.1 l.invariant.2 c.tally-found.ensures
    (bound_some _ _ c.is_none.ensures c.if-is_none.false) in
    (omega arith, e.0, e.1)
