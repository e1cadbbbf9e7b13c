-- Laws of a call that is lent the first places only, and of clearing them.
use Rattle.std.specs.Prelude.{ℕ, ◌+◌, ◌≤◌, ◌<◌, ◌≡◌, List, ◌++◌, length, set, take, drop, replicate}
use Rattle.std.proofs.Common.{ap, sym, ◌∙◌, zero-add, arith, length-append, length-drop, length-take-le}
use Rattle.std.proofs.lemmas.List.{length-replicate, take-append-le}
use Rattle.std.proofs.Math.Seq.{drop-append_seam}
use Rattle.vmd_bytes.specs.Slices.{splice}
use Rattle.vmd_bytes.proofs.Laws.{fill_turn}
use Rattle.vmd_tables.specs.Leading.{Beyond}

module _ (n : ℕ) (a : List ℕ) (h : n ≤ length a) where
  pub front_count : length (take n a) ≡ n
  front_count = length-take-le n a h

  module _ (sub : List ℕ) (same : length sub ≡ length (take n a)) where
    pub front_beyond : Beyond n a (sub ++ drop n a)
    front_beyond =
        let e = same ∙ front_count in
        record {
          long = length-append sub (drop n a) ∙ omega (arith, length-drop n a);
          kept = ap (λ (z : ℕ). drop z (sub ++ drop n a)) (sym e) ∙ drop-append_seam sub (drop n a);
        }

    pub front_take : (r : ℕ) → r ≤ length (take n a) → take r (sub ++ drop n a) ≡ take r sub
    front_take r k = take-append-le r sub (drop n a) (omega arith)

pub clear_turn : (a : List ℕ) (i : ℕ) → i < length a → set (splice a 0 (replicate i 0)) i 0 ≡ splice a 0 (replicate (i + 1) 0)
clear_turn a i h = rw (zero-add i) at (fill_turn a 0 i 0 (omega arith))

pub clear_end : (a l : List ℕ) (n : ℕ) {i : ℕ} → i ≡ n → l ≡ splice a 0 (replicate i 0) → l ≡ replicate n 0 ++ drop n a
unfolding splice
clear_end a l n {i} e h =
    let q : 0 + length (replicate {A = ℕ} n 0) ≡ n = omega (arith, length-replicate {A = ℕ} n 0) in h ∙ rw (e, q)
