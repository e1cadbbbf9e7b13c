use Rattle.std.proofs.Common.{sym, ◌∙◌, arith}
use Rattle.vmd_frames.proofs.Laws.{reaches_next, frame_end_next, frame_end_done}
use Rattle.vmd_frames.proofs.frame_end.Goals as goal

pub next_property_frame-at-requires : goal.next_property_frame-at-requires
next_property_frame-at-requires c = (reaches_next c.args.file.now c.args.n c.loop.counter c.loop.at (omega arith) c.loop.invariant.0).0

pub loop-preserved : goal.loop-preserved
loop-preserved c =
    let s = c.args.file.now in
    let l = c.loop in
    rw c.next_property_frame-at.ensures (
      (reaches_next s c.args.n l.counter l.at (omega arith) l.invariant.0).1,
      sym (frame_end_next s c.args.n l.counter l.at (omega arith)) ∙ l.invariant.1,
    )

pub returns : goal.returns
returns c = sym (frame_end_done _ _ _ (omega arith)) ∙ c.loop.invariant.1
