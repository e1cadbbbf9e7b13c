-- `vmd_kept::Keyed::pass` meets its contract. Assumes nothing.
use native.Mathlib.Omega.{arith}
use Rattle.vmd_count.specs.Rowed.{bound}
use Rattle.vmd_sort.specs.Walk.{width}
use Rattle.vmd_kept.specs.Keyed.{kept_key}
use Rattle.vmd_kept.proofs.Passes.{pass_start, pass_within, pass_turn, pass_end}
use Rattle.vmd_kept.proofs.Keyed.pass.Goals as goal

pub loop-i-init : goal.loop-i-init
loop-i-init c =
    let r = c.args.self.run in
    let e = pass_start r.file.now (width r.stride) r.place (kept_key c.args.self) (bound c.args.floor) c.args.a.now in
    (omega arith, e.0, e.1)

pub offer-held-requires : goal.offer-held-requires
offer-held-requires c =
    let l = c.loop-i in
    let r = c.args.self.run in
    let e = pass_within r.file.now (width r.stride) r.place r.count l._i l.p r.within (omega arith) l.invariant.1 in
    (omega arith, e.0, l.invariant.2.rising)

pub next_place-p-requires : goal.next_place-p-requires
next_place-p-requires c =
    let l = c.loop-i in
    let r = c.args.self.run in
    (pass_within r.file.now (width r.stride) r.place r.count l._i l.p r.within (omega arith) l.invariant.1).1

pub loop-i-preserved : goal.loop-i-preserved
loop-i-preserved c =
    let l = c.loop-i in
    let r = c.args.self.run in
    let e = c.offer-held.ensures in
    let t = pass_turn r.file.now (width r.stride) r.place (kept_key c.args.self) l._i l.p _ l.invariant.1 c.next_place-p.ensures (e.1 _ l.invariant.2) in
    (e.0, t.0, t.1)

pub returns : goal.returns
returns c =
    let l = c.loop-i in
    let r = c.args.self.run in (
      l.invariant.0,
      pass_end r.file.now (width r.stride) r.place (kept_key c.args.self) r.count l._i l.p _ (omega arith) l.invariant.1 r.within l.invariant.2,
    )
