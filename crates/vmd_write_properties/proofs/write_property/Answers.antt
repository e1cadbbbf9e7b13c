-- `vmd_write_properties::write_property` meets its contract. Assumes nothing.
use Rattle.std.proofs.Common.{arith, ◌+◌, drop, length-set}
use Rattle.vmd_laws.specs.SizedLaws.{ik_state_sized}
use Rattle.vmd_format.specs.Fetch.{next_frame}
use Rattle.vmd_write_properties.proofs.Properties.{frame_written}
use Rattle.vmd_writers.proofs.Records.{room_section}
use Rattle.vmd_write_properties.proofs.write_property.Goals as goal

pub write_each-requires : goal.write_each-requires
unfolding next_frame
write_each-requires c =
    let s = c.args in
    (omega arith, room_section ik_state_sized _ (drop (s.at + 9) s.src.now) _ (omega (arith, simp length-set at c.write_u32_le-2.auto.out)))

pub returns : goal.returns
unfolding next_frame
returns c =
    frame_written c.args.src.now c.args.out.now c.args.at c.args.to (omega arith) c.read_u32_le-frame.ensures c.write_u32_le.ensures c.canonical_flag-flag.ensures c.read_u32_le-count.ensures c.write_u32_le-2.ensures (omega arith) c.write_each.ensures
