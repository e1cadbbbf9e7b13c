-- `vmd_write_columns::write_bone_frames` meets its contract. Assumes nothing.
use lib.ListN.{length}
use Rattle.vmd_format.specs.Records.{bone}
use Rattle.vmd_check_tables.specs.Meaning.{table_is}
use Rattle.vmd_check_columns.specs.Meaning.{bits}
use Rattle.vmd_write_columns.specs.Stages.{bone_of}
use Rattle.vmd_write_columns.proofs.Filling.{Columned}
use Rattle.vmd_write_columns.proofs.write_bone_frames.Given as goal

abbrev pub invariant-loop-i : goal.invariant-loop-i
invariant-loop-i l =
    Columned bone.encode 111 (bone_of (table_is l.names) l.bones.name_indices.now l.bones.frames.now (bits l.bones.translations_xyz.now) (bits l.bones.rotations_xyzw.now) l.bones.interpolations.now)
    (length l.bones.name_indices.now) l.initial.out l.to l.out l.i l.q
