-- `vmd_compare::compare_records` meets its contract. Assumes nothing.
use mathlib.Core.Path.{sym, ap, ◌∙◌}
use native.Mathlib.Omega.{arith}
use Rattle.vmd_form.specs.RowLaws.{bone_rows, morph_rows, camera_rows, section_agrees}
use Rattle.vmd_form.specs.Compare.{compare_at}
use Rattle.vmd_laws.specs.Rewriting.{light_rewrites, self_shadow_rewrites}
use Rattle.vmd_compare.proofs.compare_records.Goals as goal

pub compare_rows-requires : goal.compare_rows-requires
compare_rows-requires c = rw c.in-Bone.is at c.requires

pub compare_rows-requires-in-Morph : goal.compare_rows-requires-in-Morph
compare_rows-requires-in-Morph c = rw c.in-Morph.is at c.requires

pub compare_rows-requires-in-Camera : goal.compare_rows-requires-in-Camera
compare_rows-requires-in-Camera c = rw c.in-Camera.is at c.requires

pub overflow_mul-result : goal.overflow_mul-result
overflow_mul-result c =
    let h = rw c.in-Light.is at c.requires in omega (arith, h)

pub overflow_add-result : goal.overflow_add-result
overflow_add-result c =
    let h = rw c.in-Light.is at c.requires in omega (arith, h)

pub overflow_mul-result-in-SelfShadow : goal.overflow_mul-result-in-SelfShadow
overflow_mul-result-in-SelfShadow c =
    let h = rw c.in-SelfShadow.is at c.requires in omega (arith, h)

pub overflow_add-result-in-SelfShadow : goal.overflow_add-result-in-SelfShadow
overflow_add-result-in-SelfShadow c =
    let h = rw c.in-SelfShadow.is at c.requires in omega (arith, h)

pub returns-in-Bone : goal.returns-in-Bone
returns-in-Bone c =
    rw c.in-Bone.is (c.compare_rows.ensures ∙ sym (ap (compare_at c.args.file.now c.args.at) (bone_rows c.args.file.now (λ i. (c.type_inv.file i).fits) c.args.n c.args.at (rw c.in-Bone.is at c.requires))))

pub returns-in-Morph : goal.returns-in-Morph
returns-in-Morph c =
    rw c.in-Morph.is (c.compare_rows-in-Morph.ensures ∙ sym (ap (compare_at c.args.file.now c.args.at) (morph_rows c.args.file.now (λ i. (c.type_inv.file i).fits) c.args.n c.args.at (rw c.in-Morph.is at c.requires))))

pub returns-in-Camera : goal.returns-in-Camera
returns-in-Camera c =
    rw c.in-Camera.is (c.compare_rows-in-Camera.ensures ∙ sym (ap (compare_at c.args.file.now c.args.at) (camera_rows c.args.file.now (λ i. (c.type_inv.file i).fits) c.args.n c.args.at (rw c.in-Camera.is at c.requires))))

pub returns-in-Light : goal.returns-in-Light
returns-in-Light c =
    rw c.in-Light.is (sym (section_agrees c.args.file.now (λ i. (c.type_inv.file i).fits) light_rewrites c.args.n c.args.at (rw c.in-Light.is at c.requires)))

pub returns-in-SelfShadow : goal.returns-in-SelfShadow
returns-in-SelfShadow c =
    rw c.in-SelfShadow.is (sym (section_agrees c.args.file.now (λ i. (c.type_inv.file i).fits) self_shadow_rewrites c.args.n c.args.at (rw c.in-SelfShadow.is at c.requires)))
