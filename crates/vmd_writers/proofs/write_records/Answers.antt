-- `vmd_writers::write_records` meets its contract. Assumes nothing.
use mathlib.Core.Logic.{inl, inr}
use Rattle.vmd_laws.specs.Rewriting.{light_rewrites, self_shadow_rewrites}
use Rattle.vmd_writers.proofs.write_records.Goals as goal

pub write_each-requires : goal.write_each-requires
write_each-requires c = rw c.in-Bone.is at c.requires

pub write_each-requires-in-Morph : goal.write_each-requires-in-Morph
write_each-requires-in-Morph c = rw c.in-Morph.is at c.requires

pub write_each-requires-in-Camera : goal.write_each-requires-in-Camera
write_each-requires-in-Camera c = rw c.in-Camera.is at c.requires

pub copy_records-requires-clause-unchanged : goal.copy_records-requires-clause-unchanged
copy_records-requires-clause-unchanged c =
    elim c.in-Light.is [ inl e ↦ rw e light_rewrites | inr e ↦ rw e self_shadow_rewrites ]

pub returns-in-Bone : goal.returns-in-Bone
returns-in-Bone c = rw c.in-Bone.is c.write_each.ensures

pub returns-in-Morph : goal.returns-in-Morph
returns-in-Morph c = rw c.in-Morph.is c.write_each-in-Morph.ensures

pub returns-in-Camera : goal.returns-in-Camera
returns-in-Camera c = rw c.in-Camera.is c.write_each-in-Camera.ensures
