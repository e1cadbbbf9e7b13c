-- `vmd_frames::frame_end` meets its contract. The invariant: what is left ends where all end. Assumes nothing.
use Rattle.std.proofs.Common.{◌≡◌, ◌-◌}
use Rattle.vmd_laws.specs.Places.{Reaches, frame_end}
use Rattle.vmd_frames.proofs.frame_end.Given as goal

abbrev pub invariant-loop : goal.invariant-loop
invariant-loop l = Reaches l.file (l.n - l.counter) l.at × (frame_end l.file (l.n - l.counter) l.at ≡ frame_end l.file l.n l.place)
