use Rattle.std.proofs.Common.{◌≡◌, ◌+◌, ◌-◌}
use native.Mathlib.Nat.{sub-zero}
use native.Mathlib.Omega.{arith}
use Rattle.vmd_bytes.proofs.Writes.{less_one}
use Rattle.vmd_records.specs.Kinds.{size_of}
use Rattle.vmd_excerpt_sections.specs.RowLaws.{moving_start, moving_frame, moving_turn, moving_end}
use Rattle.vmd_excerpt_sections.specs.FrameLaws.{frame_fits}
use Rattle.vmd_excerpt_sections.proofs.move_frames.Goals as goal

pub loop-init : goal.loop-init
loop-init c = rw sub-zero (moving_start c.args.kind c.args.first c.args.n c.args.at c.requires.0 c.requires.1 c.requires.2 c.requires.3)

pub frame_at-frame-requires : goal.frame_at-frame-requires
frame_at-frame-requires c = omega (arith, c.loop.invariant.lie, less_one (c.args.n - c.loop.counter) (size_of c.args.kind) (omega arith))

pub overflow_add-q : goal.overflow_add-q
overflow_add-q c = omega (arith, c.frame_offset-offset.ensures, c.loop.invariant.room, less_one (c.args.n - c.loop.counter) (size_of c.args.kind) (omega arith), frame_fits c.args.kind)

pub overflow_sub-frame : goal.overflow_sub-frame
overflow_sub-frame c = omega (arith, c.frame_at-frame.ensures, moving_frame c.args.kind c.args.first c.loop.invariant (omega arith))

pub write_u32_le-requires : goal.write_u32_le-requires
write_u32_le-requires c = omega (arith, c.frame_offset-offset.ensures, c.loop.invariant.room, less_one (c.args.n - c.loop.counter) (size_of c.args.kind) (omega arith), frame_fits c.args.kind)

pub overflow_add-p : goal.overflow_add-p
overflow_add-p c = omega (arith, c.size-size.ensures, c.loop.invariant.lie, less_one (c.args.n - c.loop.counter) (size_of c.args.kind) (omega arith))

pub overflow_add-q-in-loop : goal.overflow_add-q-in-loop
overflow_add-q-in-loop c = omega (arith, c.size-size.ensures, c.loop.invariant.room, less_one (c.args.n - c.loop.counter) (size_of c.args.kind) (omega arith))

pub loop-preserved : goal.loop-preserved
loop-preserved c =
    let e : c.args.n - (c.loop.counter + 1) ≡ c.args.n - c.loop.counter - 1 = omega arith in
    rw (e, c.size-size.ensures) (moving_turn c.args.kind c.args.first c.loop.invariant (omega arith) (rw (c.frame_offset-offset.ensures, c.frame_at-frame.ensures) at c.write_u32_le.ensures))

pub returns : goal.returns
returns c = moving_end c.args.kind c.args.first c.loop.invariant (omega arith)
