-- `vmd_reader::open_scanned` meets its contract. Assumes nothing.
use native.Mathlib.Omega.{arith}
use Rattle.vmd_laws.specs.InsideLaws.{inside_reaches}
use Rattle.vmd_reader.proofs.Laws.{opens, opens_not, fills, fills_not}
use Rattle.vmd_reader.proofs.open_scanned.Goals as goal

pub returns-then-scratch-places_needed : goal.returns-then-scratch-places_needed
returns-then-scratch-places_needed c =
    let q = c.places_needed.ensures in
    record { result_value = opens_not _ _ _ q _ c.if-scratch-places_needed.true; scratch_left = fills_not _ _ _ q _ c.if-scratch-places_needed.true }

pub write_frame_places-requires : goal.write_frame_places-requires
write_frame_places-requires c =
    (omega (arith, c.places_needed.ensures), inside_reaches _ _ c.args.take.now.scanned.inside)

pub returns : goal.returns
returns c =
    record { result_value = opens _ _ _ c.places_needed.ensures _ _ c.if-scratch-places_needed.false c.frames_of-frames.ensures; scratch_left = fills _ _ _ c.places_needed.ensures _ _ c.if-scratch-places_needed.false c.write_frame_places.ensures }
