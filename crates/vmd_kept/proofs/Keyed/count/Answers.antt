-- `vmd_kept::Keyed::count` meets its contract. Assumes nothing.
use native.Mathlib.Omega.{arith}
use lib.Seq.{length-take-le}
use Rattle.vmd_count.proofs.HeldLaws.{bound_none, bound_some}
use Rattle.vmd_sort.specs.Walk.{states_there, width}
use Rattle.vmd_kept.specs.Keyed.{kept_key, kept_places}
use Rattle.vmd_kept.proofs.Passes.{counted_start, counted_turn, counted_end, counted_fits, counted_less, kept_few}
use Rattle.vmd_kept.proofs.Keyed.count.Goals as goal

pub loop-held-init : goal.loop-held-init
loop-held-init c =
    let r = c.args.self in counted_start (kept_key r) (states_there r.run.file.now) (kept_places r)

pub tally-found-requires : goal.tally-found-requires
tally-found-requires c =
    let e = c.pass-held.ensures in
    (omega (arith, length-take-le c.pass-held.result.m c.pass-held.new.a (omega (arith, e.0)), e.0), e.1.rising)

pub overflow_add-records : goal.overflow_add-records
overflow_add-records c =
    let r = c.args.self in
    let s = r.run.file.now in
    let e = counted_fits (kept_key r) (states_there s) c.pass-held.ensures.1 c.loop-held.invariant c.tally-found.ensures.0 c.tally-found.ensures.1 in
    omega (arith, e.0, (kept_few (kept_key r) s (width r.run.stride) r.run.count r.run.place r.run.bytes).0, r.few)

pub overflow_add-ik_states : goal.overflow_add-ik_states
overflow_add-ik_states c =
    let r = c.args.self in
    let s = r.run.file.now in
    let e = counted_fits (kept_key r) (states_there s) c.pass-held.ensures.1 c.loop-held.invariant c.tally-found.ensures.0 c.tally-found.ensures.1 in
    omega (arith, e.1, (kept_few (kept_key r) s (width r.run.stride) r.run.count r.run.place r.run.bytes).1, r.few)

pub returns-then-is_none : goal.returns-then-is_none
returns-then-is_none c =
    let r = c.args.self in
    counted_end (kept_key r) (states_there r.run.file.now) c.pass-held.ensures.1 c.loop-held.invariant c.tally-found.ensures.0 c.tally-found.ensures.1
    (bound_none _ _ c.is_none.ensures c.if-is_none.true)

pub loop-held-smaller : goal.loop-held-smaller
loop-held-smaller c =
    let r = c.args.self in
    counted_less (kept_key r) (states_there r.run.file.now) c.pass-held.ensures.1 c.loop-held.invariant c.tally-found.ensures.0 c.tally-found.ensures.1
    (bound_some _ _ c.is_none.ensures c.if-is_none.false)

pub loop-held-preserved : goal.loop-held-preserved
loop-held-preserved c =
    let r = c.args.self in
    counted_turn (kept_key r) (states_there r.run.file.now) c.pass-held.ensures.1 c.loop-held.invariant c.tally-found.ensures.0 c.tally-found.ensures.1
    (bound_some _ _ c.is_none.ensures c.if-is_none.false)
