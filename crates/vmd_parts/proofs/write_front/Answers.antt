-- `vmd_parts::write_front` meets its contract. Assumes nothing.
use Rattle.vmd_bytes.proofs.Writes.{rest_room, rest_then, rest_done}
use Rattle.vmd_parts.proofs.File.{front_rest}
use Rattle.vmd_parts.proofs.write_front.Goals as goal

pub write_header-p-requires : goal.write_header-p-requires
write_header-p-requires c =
    rest_room _ (front_rest c.requires.bones_fit c.requires.morphs_fit _ c.len-bones.ensures c.len-morphs.ensures c.requires.room)

pub write_count-q-requires : goal.write_count-q-requires
write_count-q-requires c =
    rest_room _ (rest_then _ (front_rest c.requires.bones_fit c.requires.morphs_fit _ c.len-bones.ensures c.len-morphs.ensures c.requires.room) c.write_header-p.ensures)

pub write_bone_frames-r-requires : goal.write_bone_frames-r-requires
write_bone_frames-r-requires c =
    (c.requires.bones_fit, rest_room _ (rest_then _ (rest_then _ (front_rest c.requires.bones_fit c.requires.morphs_fit _ c.len-bones.ensures c.len-morphs.ensures c.requires.room) c.write_header-p.ensures) c.write_count-q.ensures))

pub write_count-s-requires : goal.write_count-s-requires
write_count-s-requires c =
    rest_room _ (rest_then _ (rest_then _ (rest_then _ (front_rest c.requires.bones_fit c.requires.morphs_fit _ c.len-bones.ensures c.len-morphs.ensures c.requires.room) c.write_header-p.ensures) c.write_count-q.ensures) c.write_bone_frames-r.ensures)

pub write_morph_frames-requires : goal.write_morph_frames-requires
write_morph_frames-requires c =
    (c.requires.morphs_fit, (rest_then _ (rest_then _ (rest_then _ (rest_then _ (front_rest c.requires.bones_fit c.requires.morphs_fit _ c.len-bones.ensures c.len-morphs.ensures c.requires.room) c.write_header-p.ensures) c.write_count-q.ensures) c.write_bone_frames-r.ensures) c.write_count-s.ensures).room)

pub returns : goal.returns
returns c =
    rest_done (rest_then _ (rest_then _ (rest_then _ (rest_then _ (front_rest c.requires.bones_fit c.requires.morphs_fit _ c.len-bones.ensures c.len-morphs.ensures c.requires.room) c.write_header-p.ensures) c.write_count-q.ensures) c.write_bone_frames-r.ensures) c.write_count-s.ensures) c.write_morph_frames.ensures
