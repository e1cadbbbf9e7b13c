-- `vmd_writers::copy_records` meets its contract. Assumes nothing.
use Rattle.vmd_records.specs.KindLaws.{kind_sized}
use Rattle.vmd_writers.proofs.Records.{section_room, section_copied}
use Rattle.vmd_writers.proofs.copy_records.Goals as goal

pub copy_bytes-requires : goal.copy_bytes-requires
copy_bytes-requires c =
    let s = c.args in
    rw c.size.ensures (c.requires.room.0, section_room (kind_sized s.kind) s.src.now s.out.now s.at s.to s.n c.requires.room.0 c.requires.room.1)

pub returns : goal.returns
returns c =
    let s = c.args in
    rw c.size.ensures
    (section_copied (kind_sized s.kind) s.src.now s.out.now s.at s.to s.n c.requires.room.0 (λ i. (c.type_inv.src i).fits) c.requires.unchanged
    (rw c.size.ensures at c.copy_bytes.ensures))
