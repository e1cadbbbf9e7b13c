-- `vmd_write_columns::write_bone_frame` meets its contract. Assumes nothing.
use Prim.Native.Nat.{◌+◌, ◌*◌}
use mathlib.Core.Path.{refl, ap, ◌∙◌}
use lib.ListN.{get_or}
use native.Mathlib.Omega.{arith}
use Rattle.vmd_bytes.specs.Slices.{splice}
use Rattle.vmd_check_tables.specs.Meaning.{table_is}
use Rattle.vmd_write_columns.proofs.Filling.{bone_index, bone_there, bone_is}
use Rattle.vmd_write_columns.proofs.Writing.{bone_written, part_wide, part_fine, part_written}
use Rattle.vmd_write_columns.proofs.write_bone_frame.Goals as goal

pub write_name-requires : goal.write_name-requires
write_name-requires c =
    record { table = c.requires.fit.table; named = c.requires.fit.named; inside = (bone_index c.requires.fit c.args.i c.requires.inside.0, omega arith) }

pub write_floats-requires : goal.write_floats-requires
write_floats-requires c =
    let b = bone_there c.requires.fit c.args.i c.requires.inside.0 in
    let t = c.args.bones.now.translations_xyz.now in
    (omega (arith, part_wide t (3 * c.args.i) 3 b.translation), part_fine t (3 * c.args.i) 3 b.translation_finite)

pub write_floats-requires-2 : goal.write_floats-requires-2
write_floats-requires-2 c =
    let b = bone_there c.requires.fit c.args.i c.requires.inside.0 in
    let r = c.args.bones.now.rotations_xyzw.now in
    (omega (arith, part_wide r (4 * c.args.i) 4 b.rotation), part_fine r (4 * c.args.i) 4 b.rotation_finite)

pub returns : goal.returns
returns c =
    let a = c.args in
    let x = a.bones.now in
    let b = bone_there c.requires.fit a.i c.requires.inside.0 in
    bone_written _ (get_or x.frames.now a.i 0) _ _ x.interpolations.now a.i a.out.now a.to b c.requires.inside.1 c.write_name.ensures c.write_u32_le.ensures
    (part_written x.translations_xyz.now (3 * a.i) 3 _ _ (a.to + 19) c.write_floats.ensures)
    (part_written x.rotations_xyzw.now (4 * a.i) 4 _ _ (a.to + 31) c.write_floats-2.ensures)
    c.copy_interpolation.ensures (c.write_u32_le.auto.out ∙ c.write_name.auto.out)
    ∙ ap (splice a.out.now a.to) (bone_is (table_is a.names.now) x.name_indices.now x.frames.now _ _ x.interpolations.now a.i b refl)
