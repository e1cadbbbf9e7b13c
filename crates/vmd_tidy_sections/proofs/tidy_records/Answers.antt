-- `vmd_tidy_sections::tidy_records` meets its contract. Assumes nothing.
use mathlib.Core.Path.{sym, ◌∙◌}
use native.Mathlib.Omega.{arith}
use Rattle.vmd_base.specs.Meaning.{extent_is}
use Rattle.vmd_records.specs.Kinds.{size_of}
use Rattle.vmd_sort.specs.KindLaws.{kind_some}
use Rattle.vmd_tidy_sections.specs.RunLaws.{fixed_ends}
use Rattle.vmd_tidy_sections.proofs.KindLaws.{named_wide, named_ends, named_places, framed_places}
use Rattle.vmd_tidy_sections.proofs.tidy_records.Goals as goal

pub tidy_named-requires : goal.tidy_named-requires
tidy_named-requires c =
    let a = c.args.records in
    let e = sym c.key_order.ensures ∙ c.in-NameFrame.is in
    rw c.size.ensures
    (named_ends a.file.now (extent_is a.section) a.kind e a.inside.ends, named_wide a.kind e, omega arith, c.requires)

pub returns-in-NameFrame : goal.returns-in-NameFrame
returns-in-NameFrame c =
    let a = c.args.records in
    let t = c.tidy_named.ensures in
    let e = named_places a.file.now (extent_is a.section) a.kind (sym c.key_order.ensures ∙ c.in-NameFrame.is) in
    (rw c.size.ensures at t.0 ∙ e, t.1, record { long = t.2; kept = t.3 })

pub invariant_of-run : goal.invariant_of-run
invariant_of-run c =
    let a = c.args.records in
    record {
      within = fixed_ends a.file.now (size_of a.kind) a.section.count a.section.place (kind_some a.kind) a.inside.ends;
      bytes = a.bytes;
    }

pub returns-in_default : goal.returns-in_default
returns-in_default c =
    let a = c.args.records in
    let t = c.tidy_first_frames.ensures in
    let h = fixed_ends a.file.now (size_of a.kind) a.section.count a.section.place (kind_some a.kind) a.inside.ends in
    (t.0 ∙ framed_places a.file.now (extent_is a.section) a.kind (λ e. c.in_default.not-NameFrame (c.key_order.ensures ∙ e)) h, t.1, t.2)
