-- `vmd_count::offer` meets its contract. Assumes nothing.
use mathlib.Core.Path.{◌≡◌}
use Prim.Native.Nat.{◌+◌}
use native.Mathlib.Omega.{arith}
use Rattle.vmd_keys.specs.Rowed.{row_key}
use Rattle.vmd_count.proofs.HeldLaws.{holds_wanted, holds_unwanted}
use Rattle.vmd_count.proofs.offer.Goals as goal

pub returns-then-not-is_wanted : goal.returns-then-not-is_wanted
returns-then-not-is_wanted c =
    (holds_unwanted (row_key c.args.rows) c.requires.3 _ (c.if-not-is_wanted.true) c.is_wanted.ensures, omega arith)

pub returns-then-m-lt-PLACES : goal.returns-then-m-lt-PLACES
returns-then-m-lt-PLACES c =
    (holds_wanted (row_key c.args.rows) c.requires.3 (omega arith) _ (c.if-not-is_wanted.false) c.is_wanted.ensures, omega arith)

pub squeeze-requires : goal.squeeze-requires
squeeze-requires c =
    let w = holds_wanted (row_key c.args.rows) c.requires.3 (omega arith) _ (c.if-not-is_wanted.false) c.is_wanted.ensures in
    let e : c.args.held.m + 1 ≡ 32768 = omega arith in
    (omega arith, rw e at w)
