-- `vmd_kept::Keyed::tally` meets its contract. Assumes nothing.
use native.Mathlib.Omega.{arith}
use Rattle.vmd_sort.specs.Walk.{states_there}
use Rattle.vmd_sort.specs.Order.{rest}
use Rattle.vmd_kept.proofs.Passes.{tallied}
use Rattle.vmd_kept.proofs.HeldLaws.{sorted_like}
use Rattle.vmd_kept.proofs.Keyed.tally.Goals as goal

pub tidy_places-k-requires : goal.tidy_places-k-requires
tidy_places-k-requires c =
    let r = c.args.self in sorted_like (rest r.order) r.own c.args.a.now c.requires.1.sorted

pub returns : goal.returns
returns c =
    let e = c.tidy_places-k.ensures in
    tallied (states_there c.args.self.run.file.now) _ _ c.tidy_places-k.new.a _ e.0 (omega (arith, e.1, e.2)) c.count_ik_states.ensures
