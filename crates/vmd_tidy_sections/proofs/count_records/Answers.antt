-- `vmd_tidy_sections::count_records` meets its contract. Assumes nothing.
use mathlib.Core.Path.{◌∙◌}
use native.Mathlib.Omega.{arith}
use Rattle.vmd_base.specs.Meaning.{extent_is}
use Rattle.vmd_records.specs.Kinds.{size_of}
use Rattle.vmd_sort.specs.KindLaws.{kind_some}
use Rattle.vmd_sort.specs.Order.{key}
use Rattle.vmd_sort.specs.Walk.{step}
use Rattle.vmd_tidy_sections.specs.CountLaws.{keys_few}
use Rattle.vmd_tidy_sections.specs.RunLaws.{fixed_ends}
use Rattle.vmd_tidy_sections.proofs.KindLaws.{keys_kept}
use Rattle.vmd_tidy_sections.proofs.count_records.Goals as goal

pub invariant_of-run : goal.invariant_of-run
invariant_of-run c =
    let a = c.args.records in
    record {
      within = fixed_ends a.file.now (size_of a.kind) a.section.count a.section.place (kind_some a.kind) a.inside.ends;
      bytes = a.bytes;
    }

pub overflow_cast-result : goal.overflow_cast-result
overflow_cast-result c =
    let a = c.args.records in
    omega (arith, c.count_kept.ensures.0, keys_few (key c.key_order.result a.file.now) (step a.file.now (size_of a.kind)) a.section.count a.section.place)

pub returns : goal.returns
returns c =
    let a = c.args.records in
    let h = fixed_ends a.file.now (size_of a.kind) a.section.count a.section.place (kind_some a.kind) a.inside.ends in
    rw c.key_order.ensures at c.count_kept.ensures.0 ∙ keys_kept a.file.now (extent_is a.section) a.bytes a.kind h
