-- `vmd_export::both::VmdBoth::write_sections` meets its contract. Assumes nothing.
use Rattle.vmd_bytes.proofs.Writes.{rest_all, rest_room, rest_then, rest_done}
use Rattle.vmd_export.specs.Together.{sections_bytes}
use Rattle.vmd_export.proofs.both.VmdBoth.write_sections.Goals as goal

pub write_section-p-requires : goal.write_section-p-requires
unfolding sections_bytes
write_section-p-requires c =
    (record { first = c.args.self.now.first.scanned.inside.bones; second = c.args.self.now.second.scanned.inside.bones; sum = c.args.self.now.sums.bones }, rest_room _ (rest_all c.requires))

pub write_section-q-requires : goal.write_section-q-requires
unfolding sections_bytes
write_section-q-requires c =
    (record { first = c.args.self.now.first.scanned.inside.morphs; second = c.args.self.now.second.scanned.inside.morphs; sum = c.args.self.now.sums.morphs }, rest_room _ (rest_then _ (rest_all c.requires) c.write_section-p.ensures))

pub write_section-r-requires : goal.write_section-r-requires
unfolding sections_bytes
write_section-r-requires c =
    (record { first = c.args.self.now.first.scanned.inside.cameras; second = c.args.self.now.second.scanned.inside.cameras; sum = c.args.self.now.sums.cameras }, rest_room _ (rest_then _ (rest_then _ (rest_all c.requires) c.write_section-p.ensures) c.write_section-q.ensures))

pub write_back-requires : goal.write_back-requires
unfolding sections_bytes
write_back-requires c =
    (rest_then _ (rest_then _ (rest_then _ (rest_all c.requires) c.write_section-p.ensures) c.write_section-q.ensures) c.write_section-r.ensures).room

pub returns : goal.returns
unfolding sections_bytes
returns c =
    rest_done (rest_then _ (rest_then _ (rest_then _ (rest_all c.requires) c.write_section-p.ensures) c.write_section-q.ensures) c.write_section-r.ensures) c.write_back.ensures
