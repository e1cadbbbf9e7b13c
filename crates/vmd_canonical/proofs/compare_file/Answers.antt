-- `vmd_canonical::compare_file` meets its contract. Assumes nothing.
use mathlib.Core.Path.{sym, ◌∙◌}
use Rattle.vmd_laws.specs.WalkLaws.{walk_passed}
use Rattle.vmd_compare.proofs.Handed.{handed_on}
use Rattle.vmd_canonical.proofs.Stages.{up_differs, header_differs, at_bones, at_morphs, at_cameras, at_lights, at_shadows, at_properties}
use Rattle.vmd_canonical.proofs.compare_file.Goals as goal

pub returns-in_err-bones : goal.returns-in_err-bones
returns-in_err-bones c = handed_on _ _ c.from_residual.ensures.1 ∙ header_differs c.requires _ c.in_err-bones.ensures

pub compare_section-requires : goal.compare_section-requires
compare_section-requires c =
    let u = at_bones c.requires _ c.in_ok-bones.ensures in
    (u.inside, u.laid)

pub returns-in_err-morphs : goal.returns-in_err-morphs
returns-in_err-morphs c =
    handed_on _ _ c.from_residual-in_err-morphs.ensures.1
    ∙ up_differs _ _ (at_bones c.requires _ c.in_ok-bones.ensures) _ c.in_err-morphs.ensures

pub compare_section-requires-2 : goal.compare_section-requires-2
compare_section-requires-2 c =
    let u = at_morphs c.requires _ c.in_ok-bones.ensures _ c.in_ok-morphs.ensures in
    (u.inside, u.laid)

pub returns-in_err-cameras : goal.returns-in_err-cameras
returns-in_err-cameras c =
    handed_on _ _ c.from_residual-in_err-cameras.ensures.1
    ∙ up_differs _ _ (at_morphs c.requires _ c.in_ok-bones.ensures _ c.in_ok-morphs.ensures) _ c.in_err-cameras.ensures

pub compare_section-requires-3 : goal.compare_section-requires-3
compare_section-requires-3 c =
    let u = at_cameras c.requires _ c.in_ok-bones.ensures _ c.in_ok-morphs.ensures _ c.in_ok-cameras.ensures in
    (u.inside, u.laid)

pub returns-in_err-lights : goal.returns-in_err-lights
returns-in_err-lights c =
    handed_on _ _ c.from_residual-in_err-lights.ensures.1
    ∙ up_differs _ _ (at_cameras c.requires _ c.in_ok-bones.ensures _ c.in_ok-morphs.ensures _ c.in_ok-cameras.ensures) _ c.in_err-lights.ensures

pub compare_section-requires-4 : goal.compare_section-requires-4
compare_section-requires-4 c =
    let u = at_lights c.requires _ c.in_ok-bones.ensures _ c.in_ok-morphs.ensures _ c.in_ok-cameras.ensures _ c.in_ok-lights.ensures in
    (u.inside, u.laid)

pub returns-in_err-shadows : goal.returns-in_err-shadows
returns-in_err-shadows c =
    handed_on _ _ c.from_residual-in_err-shadows.ensures.1
    ∙ up_differs _ _ (at_lights c.requires _ c.in_ok-bones.ensures _ c.in_ok-morphs.ensures _ c.in_ok-cameras.ensures _ c.in_ok-lights.ensures) _ c.in_err-shadows.ensures

pub compare_section-requires-5 : goal.compare_section-requires-5
compare_section-requires-5 c =
    let u = at_shadows c.requires _ c.in_ok-bones.ensures _ c.in_ok-morphs.ensures _ c.in_ok-cameras.ensures _ c.in_ok-lights.ensures _ c.in_ok-shadows.ensures in
    (u.inside, u.laid)

pub returns-in_err-properties : goal.returns-in_err-properties
returns-in_err-properties c =
    handed_on _ _ c.from_residual-in_err-properties.ensures.1
    ∙ up_differs _ _ (at_shadows c.requires _ c.in_ok-bones.ensures _ c.in_ok-morphs.ensures _ c.in_ok-cameras.ensures _ c.in_ok-lights.ensures _ c.in_ok-shadows.ensures) _ c.in_err-properties.ensures

pub compare_property_section-requires : goal.compare_property_section-requires
compare_property_section-requires c =
    let u = at_properties c.requires _ c.in_ok-bones.ensures _ c.in_ok-morphs.ensures _ c.in_ok-cameras.ensures _ c.in_ok-lights.ensures _ c.in_ok-shadows.ensures _ c.in_ok-properties.ensures in
    (u.inside, u.laid, (walk_passed c.args.take.now.file.now _ _ 0 _ c.requires.scanned.inside.walked).reaches)

pub returns : goal.returns
returns c =
    let u = at_properties c.requires _ c.in_ok-bones.ensures _ c.in_ok-morphs.ensures _ c.in_ok-cameras.ensures _ c.in_ok-lights.ensures _ c.in_ok-shadows.ensures _ c.in_ok-properties.ensures in
    c.compare_property_section.ensures ∙ sym u.compared
