-- `vmd_excerpt_sections::move_frames` meets its contract. Assumes nothing.
use mathlib.Core.List.{map}
use Rattle.std.proofs.Common.{◌-◌}
use Rattle.vmd_framed.specs.Excerpt.{moved}
use Rattle.vmd_records.specs.Kinds.{layout}
use Rattle.vmd_format.specs.Read.{write_all}
use Rattle.vmd_excerpt_sections.specs.RowLaws.{Moving}
use Rattle.vmd_excerpt_sections.specs.Rows.{framed, rows}
use Rattle.vmd_excerpt_sections.proofs.move_frames.Given as goal

abbrev pub invariant-loop : goal.invariant-loop
invariant-loop l =
    Moving l.kind l.first l.s l.initial.out l.to (write_all (layout l.kind).encode (map (moved (framed l.kind) l.first) (rows l.kind l.s l.n l.at))) l.out l.p l.q (l.n - l.counter)
