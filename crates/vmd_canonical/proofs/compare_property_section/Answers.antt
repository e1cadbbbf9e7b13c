-- `vmd_canonical::compare_property_section` meets its contract. Assumes nothing.
use mathlib.Core.Path.{sym, subst, ◌∙◌}
use Prim.Native.Nat.{ℕ}
use Rattle.vmd_laws.specs.Places.{Reaches}
use Rattle.vmd_form.specs.StageLaws.{count_found, frames_differ, frames_agree}
use Rattle.vmd_base.specs.Meaning.{extent_is}
use Rattle.vmd_compare.proofs.Handed.{handed_on}
use Rattle.vmd_canonical.proofs.compare_property_section.Goals as goal

pub returns-in_err-frames : goal.returns-in_err-frames
returns-in_err-frames c =
    let a = c.args in
    handed_on _ _ c.from_residual.ensures.1 ∙ sym (frames_differ a.file.now a.at (extent_is a.x) _ (sym c.in_err-frames.ensures))

pub compare_properties-requires : goal.compare_properties-requires
compare_properties-requires c =
    let f = count_found c.requires.1 _ (sym c.in_ok-frames.ensures) in
    subst (λ (i : ℕ). Reaches c.args.file.now c.args.x.count i) (f.place ∙ sym f.next) c.requires.2

pub returns : goal.returns
returns c =
    let a = c.args in
    c.compare_properties.ensures ∙ sym (frames_agree a.file.now a.at (extent_is a.x) c.requires.1 _ (sym c.in_ok-frames.ensures))
