-- `vmd_frames::with_records` meets its contract. The invariant: what is gathered with what is left is what is gathered with all.
-- Assumes nothing.
use Rattle.std.proofs.Common.{◌≡◌, ◌+◌, ◌-◌, ◌*◌}
use Rattle.vmd_frames.specs.Frames.{seen}
use Rattle.vmd_frames.proofs.with_records.Given as goal

abbrev pub invariant-loop-i : goal.invariant-loop-i
invariant-loop-i l =
    let x = l.section in
    seen (λ at. at + l.size) l.offset l.file (x.count - l.i) (x.place + l.i * l.size) l.frames ≡ seen (λ at. at + l.size) l.offset l.file x.count x.place l.initial.frames
