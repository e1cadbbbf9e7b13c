-- `vmd_tidy_sections::run_length` meets its contract. Assumes nothing.
use mathlib.Core.Path.{◌≡◌, subst}
use native.Mathlib.Omega.{arith}
use Prim.Native.Nat.{◌≤◌, ◌+◌, ◌-◌}
use lib.ListN.{length, get_or}
use Rattle.vmd_sort.specs.SortLaws.{all_at}
use Rattle.vmd_sort.specs.Walk.{step, width}
use Rattle.vmd_tidy_sections.specs.RunLaws.{run_start, run_turn}
use Rattle.vmd_tidy_sections.proofs.run_length.Goals as goal

pub next_place-next-requires : goal.next_place-next-requires
next_place-next-requires c =
    let a = c.args in
    all_at (λ p. step a.s.now (width a.stride) p ≤ length a.s.now) a.places.now c.requires.1 a.i (omega arith)

pub loop-n-init : goal.loop-n-init
loop-n-init c =
    let a = c.args in
    let e = c.next_place-next.ensures in
    (run_start _ _ _ _ (omega arith) e, rw e (all_at (λ p. step a.s.now (width a.stride) p ≤ length a.s.now) a.places.now c.requires.1 a.i (omega arith)))

pub returns-then-places-i : goal.returns-then-places-i
returns-then-places-i c =
    let r = c.loop-n.invariant in
    (r.0.some, r.0.within, r.0.are, rw (← r.0.ends) r.1)

pub next_place-next-requires-in-loop-n : goal.next_place-next-requires-in-loop-n
next_place-next-requires-in-loop-n c =
    let a = c.args in
    let e : get_or a.places.now (a.i + c.loop-n.n) 0 ≡ c.loop-n.next = omega (arith, c.if-places-i.false) in
    subst (λ p. step a.s.now (width a.stride) p ≤ length a.s.now) e (all_at (λ p. step a.s.now (width a.stride) p ≤ length a.s.now) a.places.now c.requires.1 (a.i + c.loop-n.n) (omega arith))

pub loop-n-preserved : goal.loop-n-preserved
loop-n-preserved c =
    let a = c.args in
    let e : get_or a.places.now (a.i + c.loop-n.n) 0 ≡ c.loop-n.next = omega (arith, c.if-places-i.false) in
    let h = subst (λ p. step a.s.now (width a.stride) p ≤ length a.s.now) e (all_at (λ p. step a.s.now (width a.stride) p ≤ length a.s.now) a.places.now c.requires.1 (a.i + c.loop-n.n) (omega arith)) in
    (run_turn _ _ _ (omega arith) e c.next_place-next-in-loop-n.ensures c.loop-n.invariant.0, rw c.next_place-next-in-loop-n.ensures h)

pub returns : goal.returns
returns c =
    let r = c.loop-n.invariant in
    let e : c.loop-n.n ≡ length c.args.places.now - c.args.i = omega arith in
    rw (← e) (r.0.some, r.0.within, r.0.are, rw (← r.0.ends) r.1)
