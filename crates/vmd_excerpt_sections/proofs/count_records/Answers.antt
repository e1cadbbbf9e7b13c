use mathlib.Core.Path.{◌≡◌, ap, ◌∙◌}
use Prim.Native.Nat.{◌+◌, ◌-◌, ◌*◌}
use native.Mathlib.Omega.{arith}
use lib.ListN.{drop}
use Rattle.vmd_format.specs.Characters.{between}
use Rattle.vmd_laws.specs.SizedLaws.{table_first, table_none}
use Rattle.vmd_records.specs.KindLaws.{kind_sized}
use Rattle.vmd_records.specs.Kinds.{layout, size_of}
use Rattle.vmd_excerpt_sections.specs.RowLaws.{rows_few, count_turn, count_end}
use Rattle.vmd_excerpt_sections.specs.Rows.{framed, kept_rows}
use Rattle.vmd_excerpt_sections.proofs.count_records.Goals as goal

pub next_if-kept-requires : goal.next_if-kept-requires
next_if-kept-requires c = omega (arith, c.loop-i.invariant, rows_few c.args.records.kind c.args.span.first c.args.span.last c.args.records.file.now c.args.records.section.count c.args.records.section.place)

pub loop-i-preserved : goal.loop-i-preserved
unfolding kept_rows
loop-i-preserved c =
    let k = c.args.records.kind in
    let s = c.args.records.file.now in
    let x = c.args.records.section in
    let i = c.loop-i.i in
    let p = x.place + i * size_of k in
    let e : x.count - (i + 1) ≡ x.count - i - 1 = omega arith in
    let d : x.place + (i + 1) * size_of k ≡ p + size_of k = omega arith in
    let f = rw c.size-size.ensures at c.frame_at.ensures in
    rw (e, d, c.next_if-kept.ensures) (count_turn (framed k) c.args.span.first c.args.span.last c.loop-i.kept _ c.contains-on.result
    (table_first (kind_sized k) (x.count - i) p s (omega arith)) (c.contains-on.ensures ∙ ap (between c.args.span.first c.args.span.last) f) c.loop-i.invariant)

pub overflow_cast-result : goal.overflow_cast-result
overflow_cast-result c = omega (arith, c.loop-i.invariant, rows_few c.args.records.kind c.args.span.first c.args.span.last c.args.records.file.now c.args.records.section.count c.args.records.section.place)

pub returns : goal.returns
unfolding kept_rows
returns c =
    let x = c.args.records.section in
    let p = x.place + c.loop-i.i * size_of c.args.records.kind in
    count_end (framed c.args.records.kind) c.args.span.first c.args.span.last c.loop-i.kept _ (table_none (layout c.args.records.kind) (x.count - c.loop-i.i) (drop p c.args.records.file.now) (omega arith)) c.loop-i.invariant
