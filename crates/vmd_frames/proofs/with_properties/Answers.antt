use native.Mathlib.Nat.{add-zero}
use Rattle.std.proofs.Common.{arith}
use Rattle.vmd_format.specs.Fetch.{next_frame}
use Rattle.vmd_frames.proofs.Laws.{reaches_next}
use Rattle.vmd_frames.proofs.Frames.{seen_turn, seen_done}
use Rattle.vmd_frames.proofs.with_properties.Goals as goal

pub read_u32_le-requires : goal.read_u32_le-requires
unfolding next_frame
read_u32_le-requires c = omega (arith, (reaches_next c.args.file.now c.args.section.count c.loop.counter c.loop.at (omega arith) c.loop.invariant.0).0)

pub next_property_frame-at-requires : goal.next_property_frame-at-requires
next_property_frame-at-requires c = (reaches_next c.args.file.now c.args.section.count c.loop.counter c.loop.at (omega arith) c.loop.invariant.0).0

pub loop-preserved : goal.loop-preserved
loop-preserved c =
    let s = c.args.file.now in
    let n = c.args.section.count in
    let l = c.loop in
    rw (c.next_property_frame-at.ensures, c.with_frame-frames.ensures, c.read_u32_le.ensures) (
      (reaches_next s n l.counter l.at (omega arith) l.invariant.0).1,
      rw add-zero at (seen_turn _ _ s n l.counter l.at l.frames _ (omega arith) l.invariant.1),
    )

pub returns : goal.returns
returns c = seen_done _ _ _ _ _ _ _ _ (omega arith) c.loop.invariant.1
