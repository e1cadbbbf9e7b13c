-- `vmd_export::both::VmdBoth::write_back` meets its contract. Assumes nothing.
use Rattle.vmd_bytes.proofs.Writes.{rest_all, rest_room, rest_then, rest_done}
use Rattle.vmd_export.proofs.Laws.{both_of, property_frames}
use Rattle.vmd_export.specs.Together.{back_bytes}
use Rattle.vmd_export.proofs.both.VmdBoth.write_back.Goals as goal

pub write_section-p-requires : goal.write_section-p-requires
unfolding back_bytes
write_section-p-requires c =
    (record { first = c.args.self.now.first.scanned.inside.lights; second = c.args.self.now.second.scanned.inside.lights; sum = c.args.self.now.sums.lights }, rest_room _ (rest_all c.requires))

pub write_section-q-requires : goal.write_section-q-requires
unfolding back_bytes
write_section-q-requires c =
    (record { first = c.args.self.now.first.scanned.inside.self_shadows; second = c.args.self.now.second.scanned.inside.self_shadows; sum = c.args.self.now.sums.self_shadows }, rest_room _ (rest_then _ (rest_all c.requires) c.write_section-p.ensures))

pub write_property_section-requires : goal.write_property_section-requires
unfolding back_bytes
write_property_section-requires c =
    (property_frames (both_of c.args.self.now), (rest_then _ (rest_then _ (rest_all c.requires) c.write_section-p.ensures) c.write_section-q.ensures).room)

pub returns : goal.returns
unfolding back_bytes
returns c =
    rest_done (rest_then _ (rest_then _ (rest_all c.requires) c.write_section-p.ensures) c.write_section-q.ensures) c.write_property_section.ensures
