-- `vmd_count::tally` meets its contract. Assumes nothing.
use native.Mathlib.Omega.{arith}
use Rattle.vmd_keys.proofs.RowLaws.{row_top}
use Rattle.vmd_keys.specs.Rowed.{row_key}
use Rattle.vmd_count.proofs.Counts.{row_names, row_bytes}
use Rattle.vmd_count.proofs.HeldLaws.{sorted_row, low_high}
use Rattle.vmd_count.specs.Rowed.{bound}
use Rattle.vmd_count.proofs.tally.Goals as goal

pub keep_firsts-k-requires : goal.keep_firsts-k-requires
keep_firsts-k-requires c = (omega arith, c.sort_records.ensures.1)

pub returns : goal.returns
returns c =
    let r = c.args.rows in
    let f = row_key r in
    let h = c.requires.2 in
    let w = sorted_row f h c.sort_records.ensures.2 c.keep_firsts-k.ensures in
    let q = low_high f (bound c.args.floor) (row_top r) h.marked in
    let k = c.keep_firsts-k.ensures.behind in
    let b = c.weigh-bytes.ensures in
    record {
      names_add = row_names r.cut r.file.now r.place r.size r.count r.bytes _ _ _ _ w q;
      bytes_add = row_bytes r.cut r.file.now r.place r.size r.count r.bytes _ _ _ _ _ w q b.0;
      names_few = omega arith;
      bytes_few = omega arith;
    }
