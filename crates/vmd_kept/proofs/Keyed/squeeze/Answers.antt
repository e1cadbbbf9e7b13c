-- `vmd_kept::Keyed::squeeze` meets its contract. Assumes nothing.
use native.Mathlib.Omega.{arith}
use Rattle.vmd_count.specs.Rowed.{bound}
use Rattle.vmd_sort.specs.Order.{rest}
use Rattle.vmd_kept.specs.Keyed.{kept_key}
use Rattle.vmd_kept.proofs.HeldLaws.{sorted_like, cut_few, squeezed}
use Rattle.vmd_kept.proofs.Keyed.squeeze.Goals as goal

pub tidy_places-k-requires : goal.tidy_places-k-requires
tidy_places-k-requires c =
    let r = c.args.self in sorted_like (rest r.order) r.own c.args.a.now c.requires.sorted

pub returns : goal.returns
returns c =
    let r = c.args.self in
    let e = c.tidy_places-k.ensures in
    let o = c.sort_places in
    let q = c.cut-held.ensures in (
      (cut_few q).1,
      λ floor p l w. squeezed (kept_key r) r.run.file.now floor p (bound c.args.ceil) _ _ _ c.args.a.now c.tidy_places-k.new.a o.new.a _ l
          (omega arith) (omega (arith, e.1, e.2)) e.0 q o.ensures.0 o.ensures.1 w,
    )
