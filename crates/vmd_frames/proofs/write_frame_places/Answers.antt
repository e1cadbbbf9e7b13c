use Rattle.std.proofs.Common.{arith}
use Rattle.vmd_frames.proofs.Laws.{reaches_more, places_next, places_done}
use Rattle.vmd_frames.proofs.write_frame_places.Goals as goal

pub frame_end-at-requires : goal.frame_end-at-requires
frame_end-at-requires c =
    let l = c.loop-j in
    rw c.min-walked.ensures
    (reaches_more c.args.file.now c.args.section.count c.places_needed-n.result l.j l.left l.at c.places_needed-n.ensures (omega arith) l.invariant.0 l.invariant.1).0

pub loop-j-preserved : goal.loop-j-preserved
loop-j-preserved c =
    let s = c.args.file.now in
    let k = c.args.section.count in
    let n = c.places_needed-n.result in
    let l = c.loop-j in
    rw (c.frame_end-at.ensures, c.min-walked.ensures) (
      omega (arith, l.invariant.0),
      (reaches_more s k n l.j l.left l.at c.places_needed-n.ensures (omega arith) l.invariant.0 l.invariant.1).1,
      places_next s k n l.j l.left l.at c.places_needed-n.ensures (omega arith) l.invariant.0 l.scratch _ (omega arith) l.invariant.2,
    )

pub returns : goal.returns
returns c =
    let l = c.loop-j in
    rw (← c.places_needed-n.ensures)
    (places_done c.args.file.now c.places_needed-n.result l.j l.at l.scratch _ (omega arith) l.invariant.2)
