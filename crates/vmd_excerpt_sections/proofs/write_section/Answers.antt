-- `vmd_excerpt_sections::write_section` meets its contract. Assumes nothing.
use native.Mathlib.Omega.{arith}
use Rattle.vmd_records.specs.Kinds.{layout}
use Rattle.vmd_format.specs.Read.{fixed}
use Rattle.vmd_excerpt_sections.specs.RowLaws.{counted_room, counted_length, counted_written}
use Rattle.vmd_excerpt_sections.specs.Rows.{kept_rows}
use Rattle.vmd_excerpt_sections.proofs.write_section.Goals as goal

pub write_kept-written-requires : goal.write_kept-written-requires
unfolding fixed
write_kept-written-requires c =
    counted_room (fixed (layout c.args.records.kind)) (kept_rows c.args.records.kind c.args.span.first c.args.span.last c.args.records.file.now c.args.records.section.count c.args.records.section.place) c.requires

pub write_u32_le-requires : goal.write_u32_le-requires
unfolding fixed
write_u32_le-requires c =
    omega (arith, counted_length (fixed (layout c.args.records.kind)) (kept_rows c.args.records.kind c.args.span.first c.args.span.last c.args.records.file.now c.args.records.section.count c.args.records.section.place) c.requires c.write_kept-written.ensures.0, (counted_room (fixed (layout c.args.records.kind)) (kept_rows c.args.records.kind c.args.span.first c.args.span.last c.args.records.file.now c.args.records.section.count c.args.records.section.place) c.requires).room)

pub returns : goal.returns
unfolding fixed
returns c =
    counted_written (fixed (layout c.args.records.kind)) (kept_rows c.args.records.kind c.args.span.first c.args.span.last c.args.records.file.now c.args.records.section.count c.args.records.section.place) c.requires c.write_kept-written.ensures.0 c.write_kept-written.ensures.1 c.write_u32_le.ensures
