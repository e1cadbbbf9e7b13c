use Rattle.std.proofs.Common.{◌≡◌, ◌+◌, ◌*◌, arith}
use Rattle.vmd_frames.proofs.Frames.{seen_turn, seen_done}
use Rattle.vmd_frames.proofs.with_records.Goals as goal

pub loop-i-preserved : goal.loop-i-preserved
loop-i-preserved c =
    let x = c.args.section in
    let l = c.loop-i in
    let e : x.place + (l.i + 1) * c.size-size.result ≡ x.place + l.i * c.size-size.result + c.size-size.result = omega arith in
    rw (c.with_frame-frames.ensures, c.read_u32_le-frame.ensures, e)
    (seen_turn _ _ c.args.file.now x.count l.i (x.place + l.i * c.size-size.result) l.frames _ (omega arith) l.invariant)

pub returns : goal.returns
returns c =
    let e = seen_done _ _ _ _ _ _ _ _ (omega arith) c.loop-i.invariant in
    rw (c.frame_offset-offset.ensures, c.size-size.ensures) at e
