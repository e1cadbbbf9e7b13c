-- `vmd_canonical::compare_section` meets its contract. Assumes nothing.
use mathlib.Core.Path.{sym, ◌∙◌}
use native.Mathlib.Omega.{arith}
use Rattle.vmd_form.specs.StageLaws.{count_found, section_differs, section_agrees}
use Rattle.vmd_records.specs.Kinds.{layout}
use Rattle.vmd_base.specs.Meaning.{extent_is}
use Rattle.vmd_compare.proofs.Handed.{handed_on}
use Rattle.vmd_canonical.proofs.compare_section.Goals as goal

pub returns-in_err-records : goal.returns-in_err-records
returns-in_err-records c =
    let a = c.args in
    handed_on _ _ c.from_residual.ensures.1
    ∙ sym (section_differs (layout a.kind) a.file.now a.at (extent_is a.x) _ (sym c.in_err-records.ensures))

pub compare_records-requires : goal.compare_records-requires
compare_records-requires c = let f = count_found c.requires.1 _ (sym c.in_ok-records.ensures) in omega (arith, f.next, f.ends)

pub returns : goal.returns
returns c =
    let a = c.args in
    c.compare_records.ensures
    ∙ sym (section_agrees (layout a.kind) a.file.now a.at (extent_is a.x) c.requires.1 _ (sym c.in_ok-records.ensures))
