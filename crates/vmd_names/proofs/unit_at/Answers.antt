-- `vmd_names::unit_at` meets its contract. Assumes nothing.
use native.Mathlib.Omega.{arith}
use Rattle.vmd_names.proofs.Names.{single_there, last_there, pair_there, none_there, unit_none, unit_some}
use Rattle.vmd_names.proofs.unit_at.Goals as goal

pub returns-then-is_single : goal.returns-then-is_single
returns-then-is_single c =
    let s = c.args in
    unit_some (single_there s.bytes.now s.at c.is_single.ensures c.requires c.if-is_single.true)

pub returns-then-bytes-at-lt2 : goal.returns-then-bytes-at-lt2
returns-then-bytes-at-lt2 c =
    let s = c.args in
    unit_none (last_there s.bytes.now s.at c.is_single.ensures (omega arith) c.if-is_single.false)

pub returns-then-is_pair : goal.returns-then-is_pair
returns-then-is_pair c =
    let s = c.args in
    unit_some (pair_there s.bytes.now s.at c.is_single.ensures (omega arith) c.if-is_single.false c.is_pair.ensures c.if-is_pair.true)

pub returns-else-is_pair : goal.returns-else-is_pair
returns-else-is_pair c =
    let s = c.args in
    unit_none (none_there s.bytes.now s.at c.is_single.ensures (omega arith) c.if-is_single.false c.is_pair.ensures c.if-is_pair.false)
