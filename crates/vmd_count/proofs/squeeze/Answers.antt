-- `vmd_count::squeeze` meets its contract. Assumes nothing.
use mathlib.Core.Path.{refl}
use native.Mathlib.Omega.{arith}
use Rattle.vmd_keys.specs.Rowed.{row_key}
use Rattle.vmd_count.proofs.HeldLaws.{sorted_row, row_holds, row_cut_at}
use Rattle.vmd_count.proofs.squeeze.Goals as goal

pub returns-then-k-gt-KEPT : goal.returns-then-k-gt-KEPT
returns-then-k-gt-KEPT c =
    let f = row_key c.args.rows in
    let r = sorted_row f c.requires.1 c.sort_records.ensures.2 c.keep_firsts-k.ensures in
    (row_cut_at f 16383 16384 _ refl refl (omega arith) r, omega arith)

pub returns : goal.returns
returns c =
    let f = row_key c.args.rows in
    let r = sorted_row f c.requires.1 c.sort_records.ensures.2 c.keep_firsts-k.ensures in
    (row_holds f r c.requires.1.marked, omega arith)
