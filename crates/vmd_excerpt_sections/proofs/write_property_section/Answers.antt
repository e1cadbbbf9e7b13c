-- `vmd_excerpt_sections::write_property_section` meets its contract. Assumes nothing.
use native.Mathlib.Omega.{arith}
use Rattle.vmd_format.specs.Take.{property}
use Rattle.vmd_excerpt_sections.specs.RowLaws.{counted_room, counted_length, counted_written}
use Rattle.vmd_excerpt_sections.specs.Rows.{kept_frames}
use Rattle.vmd_excerpt_sections.proofs.write_property_section.Goals as goal

pub write_kept_properties-frames-requires : goal.write_kept_properties-frames-requires
write_kept_properties-frames-requires c =
    counted_room property (kept_frames c.args.span.first c.args.span.last c.args.properties.file.now c.args.properties.section.count c.args.properties.section.place) c.requires

pub write_u32_le-requires : goal.write_u32_le-requires
write_u32_le-requires c =
    omega (arith, counted_length property (kept_frames c.args.span.first c.args.span.last c.args.properties.file.now c.args.properties.section.count c.args.properties.section.place) c.requires c.write_kept_properties-frames.ensures.0, (counted_room property (kept_frames c.args.span.first c.args.span.last c.args.properties.file.now c.args.properties.section.count c.args.properties.section.place) c.requires).room)

pub returns : goal.returns
returns c =
    counted_written property (kept_frames c.args.span.first c.args.span.last c.args.properties.file.now c.args.properties.section.count c.args.properties.section.place) c.requires c.write_kept_properties-frames.ensures.0 c.write_kept_properties-frames.ensures.1 c.write_u32_le.ensures
