-- `vmd_split::VmdLentBones::write` meets its contract. Assumes nothing.
use native.Mathlib.Omega.{arith}
use Rattle.vmd_split.proofs.Sections.{names_fit, bones_left}
use Rattle.vmd_split.proofs.Room.{bone_rooms, table_rooms}
use Rattle.vmd_split.proofs.VmdLentBones.write.Goals as goal

pub write_name_table-table-requires : goal.write_name_table-table-requires
write_name_table-table-requires c =
    let r = bone_rooms _ _ _ _ _ _ c.requires.columns_fit in
    let t = table_rooms _ c.args.self.now.name_bytes.now c.args.self.now.name_ends.now c.requires.names_fit in
    record { n_in_bounds = omega (arith, c.args.take.now.scanned.inside.bones.ends, r.indices_fit, r.frames_fit); n_in_bounds_2 = (names_fit _ _ _ _ t, t.bytes, t.within) }

pub write_numbers-requires : goal.write_numbers-requires
write_numbers-requires c =
    let r = bone_rooms _ _ _ _ _ _ c.requires.columns_fit in
    omega (arith, c.args.take.now.scanned.inside.bones.ends, r.frames_fit, c.write_name_table-table.ensures.beyond.long)

pub write_numbers-requires-2 : goal.write_numbers-requires-2
write_numbers-requires-2 c =
    let r = bone_rooms _ _ _ _ _ _ c.requires.columns_fit in
    omega (arith, c.args.take.now.scanned.inside.bones.ends, r.translations_fit)

pub write_numbers-requires-3 : goal.write_numbers-requires-3
write_numbers-requires-3 c =
    let r = bone_rooms _ _ _ _ _ _ c.requires.columns_fit in
    omega (arith, c.args.take.now.scanned.inside.bones.ends, r.rotations_fit)

pub write_interpolations-requires : goal.write_interpolations-requires
write_interpolations-requires c =
    let r = bone_rooms _ _ _ _ _ _ c.requires.columns_fit in
    omega (arith, c.args.take.now.scanned.inside.bones.ends, r.interpolations_fit)

pub returns-clause-written : goal.returns-clause-written
returns-clause-written c =
    bones_left _ _ _ c.write_name_table-table.ensures.numbered c.write_name_table-table.ensures.beyond c.write_numbers.ensures c.write_numbers-2.ensures c.write_numbers-3.ensures c.write_interpolations.ensures
