-- `vmd_kept::Keyed::offer` meets its contract. Assumes nothing.
use mathlib.Core.List.{[], ◌∷◌, ◌++◌}
use mathlib.Core.Path.{sym, ◌∙◌}
use Prim.Native.Nat.{◌+◌}
use native.Mathlib.Omega.{arith}
use lib.ListN.{take}
use Rattle.vmd_count.specs.Rowed.{bound}
use Rattle.vmd_kept.specs.Keyed.{kept_key, file_end}
use Rattle.vmd_kept.proofs.HeldLaws.{holds_skip, holds_add, put_last, put_full, rising_put}
use Rattle.vmd_kept.proofs.Keyed.offer.Goals as goal

pub returns-then-not-is_between : goal.returns-then-not-is_between
returns-then-not-is_between c =
    (omega arith, λ l w. holds_skip (kept_key c.args.self) w (sym c.is_between.ensures ∙ c.if-not-is_between.true))

pub returns-then-m-lt-PLACES : goal.returns-then-m-lt-PLACES
returns-then-m-lt-PLACES c =
    let a = c.args in (
      omega arith,
      λ l w. rw (put_last a.a.now a.held.m a.x (omega arith))
          (holds_add (kept_key a.self) w (sym c.is_between.ensures ∙ c.if-not-is_between.false)),
    )

pub squeeze-requires : goal.squeeze-requires
squeeze-requires c =
    let a = c.args in
    let p = c.requires in
    rw (put_full a.a.now a.held.m a.x (omega arith))
    (rising_put (file_end a.self) a.x (take a.held.m a.a.now) p.1 p.2)

pub returns : goal.returns
returns c =
    let a = c.args in
    let e = c.squeeze.ensures in (
      omega (arith, e.0),
      λ l w. e.1 (bound a.floor) (a.x + 1) (l ++ a.x ∷ [])
          (rw (put_full a.a.now a.held.m a.x (omega arith))
          (holds_add (kept_key a.self) w (sym c.is_between.ensures ∙ c.if-not-is_between.false))),
    )
