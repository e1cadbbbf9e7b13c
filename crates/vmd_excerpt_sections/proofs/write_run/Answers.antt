-- `vmd_excerpt_sections::write_run` meets its contract. Assumes nothing.
use mathlib.Core.Path.{ap, sym, ◌∙◌}
use Prim.Native.Nat.{◌+◌, ◌≤◌}
use native.Mathlib.Omega.{arith}
use lib.ListN.{length}
use Rattle.vmd_records.specs.Kinds.{layout}
use Rattle.vmd_bytes.proofs.Laws.{length_splice}
use Rattle.vmd_format.specs.Read.{write_all}
use Rattle.vmd_excerpt_sections.specs.RowLaws.{rows_wide, moved_wide, stands_written, over_written}
use Rattle.vmd_excerpt_sections.specs.Rows.{rows}
use Rattle.vmd_excerpt_sections.proofs.write_run.Goals as goal

pub write_records-end-requires : goal.write_records-end-requires
write_records-end-requires c =
    (c.requires.0, record { room = omega (arith, c.requires.2.room, moved_wide c.args.kind c.args.first (rows c.args.kind c.args.s.now c.args.n c.args.at)) })

pub move_frames-requires : goal.move_frames-requires
move_frames-requires c =
    let l = rows c.args.kind c.args.s.now c.args.n c.args.at in
    let b = write_all (layout c.args.kind).encode l in
    let h : c.args.to + length b ≤ length c.args.out.now = omega (arith, c.requires.2.room, moved_wide c.args.kind c.args.first l) in
    let e = ap length c.write_records-end.ensures.holds ∙ length_splice c.args.out.now c.args.to b h in
    (c.requires.0, omega (arith, h, e, rows_wide c.args.kind c.args.first c.args.s.now c.args.n c.args.at), c.requires.1, stands_written h c.write_records-end.ensures)

pub returns : goal.returns
returns c =
    over_written c.write_records-end.ensures c.move_frames.ensures (sym (moved_wide c.args.kind c.args.first (rows c.args.kind c.args.s.now c.args.n c.args.at))) c.requires.2.room
