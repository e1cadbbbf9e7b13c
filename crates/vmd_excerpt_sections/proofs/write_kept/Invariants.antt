-- `vmd_excerpt_sections::write_kept` meets its contract. Assumes nothing.
use mathlib.Core.Path.{◌≡◌}
use Prim.Native.Nat.{◌+◌, ◌*◌, ◌≤◌}
use lib.ListN.{length}
use Rattle.vmd_records.specs.Kinds.{layout, size_of}
use Rattle.vmd_excerpt_sections.specs.RowLaws.{Keeping}
use Rattle.vmd_excerpt_sections.specs.Rows.{framed, rows}
use Rattle.vmd_excerpt_sections.proofs.write_kept.Given as goal

abbrev pub invariant-loop-left : goal.invariant-loop-left
invariant-loop-left l = (l.size ≡ size_of l.records.kind) × (l.p + l.left * size_of l.records.kind ≤ length l.file)
    × Keeping (framed l.records.kind) (layout l.records.kind).encode l.span.first l.span.last (rows l.records.kind l.file l.initial.left l.initial.p) l.initial.out l.to l.out l.q l.kept (rows l.records.kind l.file l.left l.p)

abbrev pub decreases-loop-left : goal.decreases-loop-left
decreases-loop-left l = l.left
