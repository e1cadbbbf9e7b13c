-- `vmd_excerpt_sections::write_moved_property` meets its contract. Assumes nothing.
use mathlib.Core.Path.{ap, ◌∙◌}
use Prim.Native.Nat.{◌+◌, ◌≤◌}
use native.Mathlib.Omega.{arith}
use lib.ListN.{length}
use Rattle.vmd_format.specs.Fetch.{next_frame}
use Rattle.vmd_format.specs.Take.{property}
use Rattle.vmd_laws.specs.PlacesLaws.{property_in}
use Rattle.vmd_laws.specs.WalkLaws.{frame_ends}
use Rattle.vmd_laws.specs.Places.{Reaches}
use Rattle.vmd_bytes.proofs.Laws.{length_splice}
use Rattle.vmd_excerpt_sections.specs.RowLaws.{frame_one, property_moved, property_wide}
use Rattle.vmd_excerpt_sections.proofs.write_moved_property.Goals as goal

pub read_u32_le-frame-requires : goal.read_u32_le-frame-requires
unfolding next_frame
read_u32_le-frame-requires c = omega (arith, c.requires.0)

pub write_properties-end-requires : goal.write_properties-end-requires
unfolding Reaches
write_properties-end-requires c =
    let e = frame_one c.args.s.now c.args.at in
    ((c.requires.0, tt), record { room = rw e (omega (arith, c.requires.2.room, property_wide c.args.first (property_in c.args.s.now c.args.at))) })

pub write_u32_le-requires : goal.write_u32_le-requires
unfolding next_frame
write_u32_le-requires c =
    let p = property_in c.args.s.now c.args.at in
    let w = property_wide c.args.first p in
    let h : c.args.to + length (property.write p) ≤ length c.args.out.now = omega (arith, c.requires.2.room, w) in
    let o = rw (frame_one c.args.s.now c.args.at) at c.write_properties-end.ensures in
    omega (arith, h, frame_ends c.args.s.now c.args.at, ap length o.holds ∙ length_splice c.args.out.now c.args.to (property.write p) h)

pub returns : goal.returns
unfolding property_in
returns c =
    let p = property_in c.args.s.now c.args.at in
    let o = rw (frame_one c.args.s.now c.args.at) at c.write_properties-end.ensures in
    property_moved c.args.first p o c.write_u32_le.ensures (rw c.read_u32_le-frame.ensures) (omega (arith, c.requires.2.room, property_wide c.args.first p))
