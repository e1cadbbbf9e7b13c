-- `vmd_excerpt_sections::run_length` meets its contract. Assumes nothing.
use Rattle.std.proofs.Common.{◌≡◌}
use Rattle.vmd_laws.specs.ReadLaws.{All}
use Rattle.vmd_format.specs.Characters.{between}
use Rattle.vmd_excerpt_sections.specs.Rows.{framed, rows}
use Rattle.vmd_excerpt_sections.proofs.run_length.Given as goal

abbrev pub invariant-loop-k : goal.invariant-loop-k
invariant-loop-k l = All (λ a. between l.span.first l.span.last ((framed l.kind).frame a) ≡ l.on) (rows l.kind l.s l.k l.at)
