-- `vmd_scan::ByteReader::counted_section` meets its contract. Assumes nothing.
use Prim.Native.Nat.{◌*◌, ◌-◌}
use mathlib.Core.Path.{sym, ◌∙◌}
use native.Mathlib.Omega.{arith}
use lib.ListN.{length}
use borrow.Author.Rules.{rules}
use borrow.Author.Tests.{leb-true}
use Rattle.vmd_scan.specs.Stages.{counted_span, counted_if}
use Rattle.vmd_scan.proofs.Laws.{size_fits}
use Rattle.vmd_scan.proofs.ByteReader.counted_section.Goals as goal

pub overflow_mul-bytes : goal.overflow_mul-bytes
overflow_mul-bytes c = record { fits = size_fits _ _ (search rules) (search rules) }

pub overflow_add-next : goal.overflow_add-next
overflow_add-next c =
    let a = c.args in
    omega (arith, leb-true (a.count * a.record_size) (length a.file.now - a.self.pos) (sym c.require_record_bytes.ensures ∙ c.if-require_record_bytes.true))

pub returns-then-require_record_bytes : goal.returns-then-require_record_bytes
unfolding counted_span counted_if
returns-then-require_record_bytes c = rw (sym c.require_record_bytes.ensures ∙ c.if-require_record_bytes.true)

pub returns : goal.returns
unfolding counted_span counted_if
returns c = rw (sym c.require_record_bytes.ensures ∙ c.if-require_record_bytes.false) c.oversized_section.ensures
