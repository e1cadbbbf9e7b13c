-- `vmd_frames::write_frame_places` meets its contract. The invariant: what is written, the places that are left and the rest of
-- the scratch are what is to stand there in the end. Assumes nothing.
use Rattle.std.proofs.Common.{◌≡◌, ◌-◌, ◌*◌, ◌++◌, take, drop}
use Rattle.vmd_laws.specs.Places.{Reaches, sixteenth_places}
use Rattle.vmd_frames.proofs.write_frame_places.Given as goal

abbrev pub invariant-loop-j : goal.invariant-loop-j
invariant-loop-j l = (l.left ≡ l.initial.left - 16 * l.j) × Reaches l.file l.left l.at
    × (take l.j l.scratch ++ (sixteenth_places l.file (l.n - l.j) l.at ++ drop l.n l.scratch) ≡ sixteenth_places l.file l.n l.initial.at ++ drop l.n l.initial.scratch)
