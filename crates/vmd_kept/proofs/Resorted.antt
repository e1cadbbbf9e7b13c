-- Places that are sorted by their keys, no two of one key, go back into file order: they are the last ones by key of what is
-- left.
use Prim.Native.Nat.{ℕ, ◌<◌}
use mathlib.Core.Path.{◌≡◌, refl, ap, sym, ◌∙◌}
use mathlib.Core.Logic.{inl, inr}
use mathlib.Core.List.{List, [], ◌∷◌, map}
use native.Mathlib.Omega.{arith}
use lib.ListN.{length, get_or, take}
use lib.Seq.{take_all, take-length}
use Rattle.vmd_laws.specs.ReadLaws.{All}
use Rattle.vmd_format.specs.Parts.{upto}
use Rattle.vmd_keys.specs.Heap.{Swaps, Ascending}
use Rattle.vmd_keys.specs.HeapLaws.{swaps_length}
use Rattle.vmd_count.specs.DistinctLaws.{Member, member_all}
use Rattle.vmd_tracks.specs.Tracks.{lasts}
use Rattle.vmd_tracks.proofs.TrackLaws.{all_map}
use Rattle.vmd_tracks.specs.Sorted.{Sorted}
use Rattle.vmd_tracks.proofs.RankedLaws.{sorted_is}
use Rattle.vmd_sort.specs.Order.{rank}
use Rattle.vmd_sort.specs.Arranged.{Arranged, arranged_swaps, arranged_from, arranged_to, arranged_sorted}
use Rattle.vmd_sort.specs.SortLaws.{sorted_once, map_at}
use Rattle.vmd_sort.specs.declared.VmdOrder.TheVariants as order

-- where a number rises it tells the places
sorted_tells : (f : ℕ → ℕ) (l : List ℕ) → Sorted f l → (a b : ℕ) → Member a l → Member b l → f a ≡ f b → a ≡ b
sorted_tells f [] h a b p q e = absurd p
sorted_tells f (x ∷ l) h a b (inl p) (inl q) e = p ∙ sym q
sorted_tells f (x ∷ l) h a b (inl p) (inr q) e = let y = ap f p in let z = member_all (λ c. f x < f c) b l h.0 q in absurd (omega arith)
sorted_tells f (x ∷ l) h a b (inr p) (inl q) e = let y = ap f q in let z = member_all (λ c. f x < f c) a l h.0 p in absurd (omega arith)
sorted_tells f (x ∷ l) h a b (inr p) (inr q) e = sorted_tells f l h.1 a b p q e

-- sorted by the two halves of a number is sorted by the number
module _ (s : List ℕ) where
  number_less : (x y : ℕ) → rank order.Number s x < rank order.Number s y → x < y
  unfolding rank
  number_less x y h = omega arith

  number_tells : (x y : ℕ) → rank order.Number s x ≡ rank order.Number s y → x ≡ y
  unfolding rank
  number_tells x y e = omega arith

  number_sorted : (l : List ℕ) → Sorted (rank order.Number s) l → Sorted (λ x. x) l
  number_sorted [] h = tt
  number_sorted (a ∷ l) h =
      (all_map _ _ l (λ b (k : rank order.Number s a < rank order.Number s b). number_less a b k) h.0, number_sorted l h.1)

-- u is t in file order
pub record Resorted (f : ℕ → ℕ) (t u : List ℕ) : Type 0 where
  pub long : length u ≡ length t
  pub sorted : Sorted (λ x. x) u
  pub among : All (λ x. Member x t) u
  pub same : lasts f u ≡ t

-- LAW
pub resorted : (f : ℕ → ℕ) (s t u : List ℕ) → Sorted f t → Ascending (rank order.Number s) (length t) u → Swaps (length t) t u → Resorted f t u
resorted f s t u h a w = record {
  long = long;
  sorted = number_sorted s u (rw whole at (arranged_sorted (length t) here u v (rank order.Number s) (number_tells s) a));
  among = among;
  same = sym (sorted_is f (λ x. Member x t) (sorted_tells f t h) u t among h (rw (whole, all) at (arranged_to (length t) here u v)) among);
}
  where
    long : length u ≡ length t
    long = swaps_length w

    here : ℕ → ℕ
    here k = get_or t k 0

    v : Arranged (length t) here u
    v = arranged_swaps w (record {
      long = omega arith;
      comes = λ p g. record { k = p; below = g; is = refl };
      goes = λ i g. record { k = i; below = g; holds = refl };
      once = sorted_once f t h;
    })

    whole : take (length t) u ≡ u
    whole = take_all (length t) u (omega (arith, long))

    all : map (λ i. get_or t i 0) (upto 0 (length t)) ≡ t
    all = map_at (length t) 0 t (omega arith) ∙ take-length t

    among : All (λ x. Member x t) u
    among = rw (whole, all) at (arranged_from (length t) here u v)
