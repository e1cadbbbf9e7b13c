-- `vmd_tables::number_records` meets its contract. Assumes nothing.
use native.Mathlib.Omega.{arith}
use Rattle.vmd_tables.proofs.Numbering.{space, numbered_start, numbered_fits, numbered_turn, bytes_long, ends_long, indices_long}
use Rattle.vmd_tables.proofs.number_records.Goals as goal

pub loop-i-init : goal.loop-i-init
loop-i-init c =
    let r = c.args.rows in
    numbered_start r.file.now r.place r.size c.args.bytes.now c.args.ends.now c.args.indices.now

pub number_record-table-requires : goal.number_record-table-requires
number_record-table-requires c =
    let g = c.loop-i.invariant in
    let p = c.requires in
    let s = space c.args.rows p.led.0 p.room in record {
      i_in_bounds = (omega arith, omega arith, omega (arith, indices_long g s (omega arith)), p.led.2.leads.back c.loop-i.i (omega arith));
      fits = numbered_fits g s p.led.2 (omega arith);
    }

pub loop-i-preserved : goal.loop-i-preserved
loop-i-preserved c =
    let p = c.requires in
    let r = c.args.rows in
    numbered_turn c.loop-i.invariant (space r p.led.0 p.room) p.led.2 (omega arith) r.bytes c.number_record-table.ensures

pub shape_of-bytes : goal.shape_of-bytes
shape_of-bytes c =
    let p = c.requires in bytes_long c.loop-i.invariant (space c.args.rows p.led.0 p.room) (omega arith)

pub shape_of-ends : goal.shape_of-ends
shape_of-ends c =
    let p = c.requires in ends_long c.loop-i.invariant (space c.args.rows p.led.0 p.room) (omega arith)

pub shape_of-indices : goal.shape_of-indices
shape_of-indices c =
    let p = c.requires in indices_long c.loop-i.invariant (space c.args.rows p.led.0 p.room) (omega arith)
