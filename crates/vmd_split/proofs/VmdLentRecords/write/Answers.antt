-- `vmd_split::VmdLentRecords::write` meets its contract. Assumes nothing.
use native.Mathlib.Omega.{arith}
use Rattle.vmd_laws.specs.SizedLaws.{camera_sized, light_sized, self_shadow_sized}
use Rattle.vmd_laws.specs.InsideLaws.{inside_reaches}
use Rattle.vmd_split.proofs.Room.{record_rooms, rows_room, frames_room, wrote_over}
use Rattle.vmd_split.proofs.VmdLentRecords.write.Goals as goal

pub write_records-requires : goal.write_records-requires
write_records-requires c =
    (omega (arith, c.args.take.now.scanned.inside.cameras.ends), rows_room camera_sized _ _ (record_rooms c.requires).cameras_fit)

pub write_records-requires-2 : goal.write_records-requires-2
write_records-requires-2 c =
    (omega (arith, c.args.take.now.scanned.inside.lights.ends), rows_room light_sized _ _ (record_rooms c.requires).lights_fit)

pub write_records-requires-3 : goal.write_records-requires-3
write_records-requires-3 c =
    (omega (arith, c.args.take.now.scanned.inside.self_shadows.ends), rows_room self_shadow_sized _ _ (record_rooms c.requires).self_shadows_fit)

pub write_properties-requires : goal.write_properties-requires
write_properties-requires c =
    (inside_reaches _ _ c.args.take.now.scanned.inside, frames_room c.args.take.now.scanned (record_rooms c.requires).properties_fit)

pub returns-clause-written : goal.returns-clause-written
returns-clause-written c =
    record { cameras_are = wrote_over c.write_records.ensures; lights_are = wrote_over c.write_records-2.ensures; self_shadows_are = wrote_over c.write_records-3.ensures; properties_are = wrote_over c.write_properties.ensures }
