-- `vmd_frames::with_properties` meets its contract. The invariant: what is gathered with what is left is what is gathered with
-- all. Assumes nothing.
use Rattle.std.proofs.Common.{◌≡◌, ◌-◌}
use Rattle.vmd_format.specs.Fetch.{next_frame}
use Rattle.vmd_laws.specs.Places.{Reaches}
use Rattle.vmd_frames.specs.Frames.{seen}
use Rattle.vmd_frames.proofs.with_properties.Given as goal

abbrev pub invariant-loop : goal.invariant-loop
invariant-loop l =
    let n = l.fn.section.count in
    Reaches l.file (n - l.counter) l.at × (seen (next_frame l.file) 0 l.file (n - l.counter) l.at l.frames ≡ seen (next_frame l.file) 0 l.file n l.initial.at l.initial.frames)
