-- `vmd_excerpt_sections::count_records` meets its contract. Assumes nothing.
use Rattle.std.proofs.Common.{◌≡◌, ◌+◌, ◌-◌, ◌*◌, length}
use Rattle.vmd_records.specs.Kinds.{size_of}
use Rattle.vmd_excerpt_sections.specs.Rows.{kept_rows}
use Rattle.vmd_excerpt_sections.proofs.count_records.Given as goal

abbrev pub invariant-loop-i : goal.invariant-loop-i
invariant-loop-i l =
    let rest = kept_rows l.records.kind l.span.first l.span.last l.file (l.records.section.count - l.i) (l.records.section.place + l.i * size_of l.records.kind) in
    l.kept + length rest ≡ length (kept_rows l.records.kind l.span.first l.span.last l.file l.records.section.count l.records.section.place)
