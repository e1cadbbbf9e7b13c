-- `vmd_bytes::fill_zeros` meets its contract. Assumes nothing.
use Rattle.std.proofs.Common.{ℕ, List, ◌∙◌, ap, arith, length, replicate}
use lib.ListN.{length-replicate}
use Rattle.vmd_bytes.proofs.Laws.{put_part, range_part, length_run}
use Rattle.vmd_bytes.proofs.fill_zeros.Goals as goal

pub returns : goal.returns
returns c =
    let a = c.args in
    let long = ap (λ (l : List ℕ). replicate {A = ℕ} (length l) 0) (range_part a.out.now a.to a.n) ∙ ap (λ (k : ℕ). replicate {A = ℕ} k 0) (length_run a.out.now a.to a.n (omega arith)) in
    rw (c.fill.ensures.after (λ y h. h), long) (put_part a.out.now _ a.to a.n (length-replicate a.n 0))
