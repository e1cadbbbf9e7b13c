-- Laws of the keys that a pass looks for.
use Prim.Native.Nat.{ℕ, zero, suc, ◌<◌}
use mathlib.Core.Path.{◌≡◌, refl, ap, sym, ◌∙◌}
use mathlib.Core.Bool.{Bool, true, false, not, ◌&&◌}
use mathlib.Core.List.{List, [], ◌∷◌}
use native.Mathlib.Omega.{arith}
use borrow.Author.Tests.{ltb-true, ltb-false, le-ltb, lt-ltb, not-true}
use lib.Dec.{ltb}
use Rattle.std.proofs.Common.{Ordering}
use Rattle.std.specs.Ordering.{is_lt, nat_cmp}
use Rattle.std.proofs.lemmas.Bool.Decides.{nat_tests}
use lib.ListN.{length, get_or, take}
use Rattle.vmd_count.specs.DistinctLaws.{select_none}
use Rattle.vmd_keys.specs.Names.{select}
use Rattle.vmd_tracks.proofs.TrackLaws.{Test, passed, failed, test, keep_true, keep_false, all_map}
use Rattle.vmd_tracks.specs.Sorted.{Sorted}
use Rattle.vmd_sort.specs.SortLaws.{all_at}
use Rattle.vmd_kept.specs.Window.{above, between}

and_both : (x y : Bool) → (x && y) ≡ true → (x ≡ true) × (y ≡ true)
and_both true true e = (refl, refl)
and_both true false e = let z : ◌≡◌ {A = ℕ} 0 1 = cc in absurd (omega arith)
and_both false y e = let z : ◌≡◌ {A = ℕ} 0 1 = cc in absurd (omega arith)

and_false : (x : Bool) → (x && false) ≡ false
and_false true = refl
and_false false = refl

-- those that pass two tests
pub select_two : (g h v : ℕ → Bool) (l : List ℕ) → ((a : ℕ) → v a ≡ (h a && g a)) → select g (select h l) ≡ select v l
unfolding select
select_two g h v [] e = refl
select_two g h v (a ∷ l) e = go (test (h a)) (test (g a)) (select_two g h v l e)
  where
    go : Test (h a) → Test (g a) → select g (select h l) ≡ select v l → select g (select h (a ∷ l)) ≡ select v (a ∷ l)
    go (passed p) (passed q) i = rw (keep_true h a l p, keep_true g a (select h l) q, keep_true v a l (e a ∙ rw (p, q)), i)
    go (passed p) (failed q) i = rw (keep_true h a l p, keep_false g a (select h l) q, keep_false v a l (e a ∙ rw (p, q)), i)
    go (failed p) q i = rw (keep_false h a l p, keep_false v a l (e a ∙ rw p), i)

module _ (f : ℕ → ℕ) where
  -- the tests, as the code makes them
  pub above_cmp : (g x : ℕ) {o : Ordering} {t : Bool} → o ≡ nat_cmp (f g) (f x) → t ≡ is_lt o → t ≡ above f (suc g) x
  unfolding above
  above_cmp g x e d = grind (arith, nat_tests, e, d)

  pub between_out : (floor ceil x : ℕ) → above f floor x ≡ false → false ≡ between f floor ceil x
  unfolding between
  between_out floor zero x e = sym e
  between_out floor (suc g) x e = rw e

  pub between_free : (floor ceil x : ℕ) → above f floor x ≡ true → ceil ≡ 0 → true ≡ between f floor ceil x
  between_free floor ceil x e z = rw z (unfold between in sym e)

  pub between_under : (floor ceil x : ℕ) → above f floor x ≡ true → ¬ (ceil ≡ 0) → (r : Bool) → r ≡ above f ceil x → not r ≡ between f floor ceil x
  unfolding between
  between_under floor zero x e d r q = absurd (d refl)
  between_under floor (suc g) x e d r q = rw (e, q)

  pub between_above : (floor ceil x : ℕ) → between f floor ceil x ≡ true → above f floor x ≡ true
  unfolding between
  between_above floor zero x e = e
  between_above floor (suc g) x e = (and_both _ _ e).0

  -- they go by the key
  above_same : (floor a b : ℕ) → f a ≡ f b → above f floor a ≡ above f floor b
  unfolding above
  above_same zero a b e = refl
  above_same (suc g) a b e = rw e

  pub between_same : (floor ceil a b : ℕ) → f a ≡ f b → between f floor ceil a ≡ between f floor ceil b
  unfolding between
  between_same floor zero a b e = above_same floor a b e
  between_same floor (suc g) a b e = rw (above_same floor a b e, above_same (suc g) a b e)

  -- a ceiling that lies between
  pub between_less : (floor ceil c x : ℕ) → between f floor ceil c ≡ true → between f floor (suc c) x ≡ (between f floor ceil x && not (ltb (f c) (f x)))
  unfolding between above
  between_less floor zero c x e = refl
  between_less floor (suc g) c x e = go (above f floor x) (test (ltb (f c) (f x))) (test (ltb (f g) (f x)))
    where
      go : (u : Bool) → Test (ltb (f c) (f x)) → Test (ltb (f g) (f x)) → (u && not (ltb (f c) (f x))) ≡ ((u && not (ltb (f g) (f x))) && not (ltb (f c) (f x)))
      go u (passed p) q = rw p (and_false u ∙ sym (and_false (u && not (ltb (f g) (f x)))))
      go u (failed p) (failed q) = rw (p, q) (same u)
        where
          same : (u : Bool) → (u && true) ≡ ((u && true) && true)
          same true = refl
          same false = refl
      go u (failed p) (passed q) =
          let r = ltb-false (f g) (f c) (not-true (ltb (f g) (f c)) (and_both (above f floor c) (not (ltb (f g) (f c))) e).1) in
          let y = ltb-false (f c) (f x) p in
          let z = ltb-true (f g) (f x) q in absurd (omega arith)

  -- of places sorted by key the first ones are those not above the last of them
  pub first_ones : (t : List ℕ) (k : ℕ) → Sorted f t → k < length t → take (suc k) t ≡ select (λ x. not (ltb (f (get_or t k 0)) (f x))) t
  first_ones [] k h g = absurd (omega arith)
  first_ones (a ∷ t) zero h g =
      let n = select_none (λ x. not (ltb (f a) (f x))) t (all_map _ _ t (λ x (y : f a < f x). rw (lt-ltb (f a) (f x) y)) h.0) in
      rw (keep_true (λ x. not (ltb (f a) (f x))) a t (rw (le-ltb (f a) (f a) (omega arith))), n)
  first_ones (a ∷ t) (suc k) h g =
      let c = get_or t k 0 in
      let y : f a < f c = all_at _ t h.0 k (omega arith) in
      rw (keep_true (λ x. not (ltb (f c) (f x))) a t (rw (le-ltb (f c) (f a) (omega arith)))) (ap {B = List ℕ} (λ r. a ∷ r) (first_ones t k h.1 (omega arith)))
