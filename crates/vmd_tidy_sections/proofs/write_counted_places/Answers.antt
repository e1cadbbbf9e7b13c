-- `vmd_tidy_sections::write_counted_places` meets its contract. Assumes nothing.
use Rattle.vmd_format.specs.Read.{write_all}
use Rattle.vmd_bytes.proofs.Writes.{rest_all, rest_room, rest_then, rest_done}
use Rattle.vmd_tidy_sections.specs.Sections.{written_at}
use Rattle.vmd_tidy_sections.proofs.write_counted_places.Goals as goal

pub write_count-p-requires : goal.write_count-p-requires
write_count-p-requires c =
    rest_room (write_all (written_at c.args.stride c.args.s.now) c.args.places.now) (rest_all c.requires.2)

pub write_places-requires : goal.write_places-requires
write_places-requires c =
    let v = write_all (written_at c.args.stride c.args.s.now) c.args.places.now in
    (c.requires.1, (rest_then v (rest_all c.requires.2) c.write_count-p.ensures).room)

pub returns : goal.returns
returns c =
    let v = write_all (written_at c.args.stride c.args.s.now) c.args.places.now in
    rest_done (rest_then v (rest_all c.requires.2) c.write_count-p.ensures) c.write_places.ensures
