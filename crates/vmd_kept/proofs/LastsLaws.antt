-- Laws of the last records by a number: those that pass a test of that number, and how many there are.
use Prim.Native.Nat.{ℕ, suc, ◌+◌, ◌≤◌, ◌<◌}
use mathlib.Core.Path.{◌≡◌, refl, sym, ◌∙◌}
use mathlib.Core.Bool.{Bool, true, false}
use mathlib.Core.List.{List, [], ◌∷◌, ◌++◌}
use native.Mathlib.Omega.{arith}
use lib.ListN.{length}
use Rattle.vmd_laws.specs.ReadLaws.{All}
use Rattle.vmd_keys.specs.Names.{select}
use Rattle.vmd_count.specs.DistinctLaws.{all_select}
use Rattle.vmd_tracks.specs.Tracks.{put, put_all, lasts}
use Rattle.vmd_tracks.proofs.TrackLaws.{Test, passed, failed, test, keep_true, keep_false, all_map, put_lt, put_eq, put_gt, Order, before, level, after, order, put_sorted, put_all_append}
use Rattle.vmd_tracks.specs.Sorted.{Sorted}

module _ {A : Type 0} (f : A → ℕ) where
  put_front : (a : A) (l : List A) → All (λ b. f a < f b) l → put f a l ≡ a ∷ l
  put_front a [] h = unfold put in refl
  put_front a (b ∷ l) h = put_lt f a b l h.0

  module _ (t : A → Bool) (goes : (a b : A) → f a ≡ f b → t a ≡ t b) where
    select_in : (a : A) (l : List A) → t a ≡ true → Sorted f l → select t (put f a l) ≡ put f a (select t l)
    select_in a [] e h = unfold put select in keep_true t a [] e
    select_in a (b ∷ l) e h = go (order f a b) (test (t b)) (select_in a l e h.1)
      where
        go : Order f a b → Test (t b) → select t (put f a l) ≡ put f a (select t l) → select t (put f a (b ∷ l)) ≡ put f a (select t (b ∷ l))
        go (before p) q i =
            rw (put_lt f a b l p, keep_true t a (b ∷ l) e)
            (sym (put_front a (select t (b ∷ l)) (all_select _ t (b ∷ l) (p, all_map _ _ l (λ c (r : f b < f c). omega arith) h.0))))
        go (level p) (passed q) i = rw (put_eq f a b l p, keep_true t a l e, keep_true t b l q, put_eq f a b (select t l) p)
        go (level p) (failed q) i = let z : ◌≡◌ {A = ℕ} 0 1 = (let r = goes a b p in cc) in absurd (omega arith)
        go (after p) (passed q) i = rw (put_gt f a b l p, keep_true t b (put f a l) q, keep_true t b l q, put_gt f a b (select t l) p, i)
        go (after p) (failed q) i = rw (put_gt f a b l p, keep_false t b (put f a l) q, keep_false t b l q, i)

    select_out : (a : A) (l : List A) → t a ≡ false → select t (put f a l) ≡ select t l
    select_out a [] e = unfold put in keep_false t a [] e
    select_out a (b ∷ l) e = go (order f a b) (test (t b)) (select_out a l e)
      where
        go : Order f a b → Test (t b) → select t (put f a l) ≡ select t l → select t (put f a (b ∷ l)) ≡ select t (b ∷ l)
        go (before p) q i = rw (put_lt f a b l p, keep_false t a (b ∷ l) e)
        go (level p) q i = rw (put_eq f a b l p, keep_false t a l e, keep_false t b l (sym (goes a b p) ∙ e))
        go (after p) (passed q) i = rw (put_gt f a b l p, keep_true t b (put f a l) q, keep_true t b l q, i)
        go (after p) (failed q) i = rw (put_gt f a b l p, keep_false t b (put f a l) q, keep_false t b l q, i)

    select_put_all : (s l : List A) → Sorted f s → select t (put_all f s l) ≡ put_all f (select t s) (select t l)
    unfolding put_all
    select_put_all s [] h = unfold select in refl
    select_put_all s (a ∷ l) h = go (test (t a)) (select_put_all (put f a s) l (put_sorted f a s h))
      where
        go : Test (t a) → select t (put_all f (put f a s) l) ≡ put_all f (select t (put f a s)) (select t l)
            → select t (put_all f (put f a s) l) ≡ put_all f (select t s) (select t (a ∷ l))
        go (passed e) i = i ∙ rw (select_in a s e h, keep_true t a l e)
        go (failed e) i = i ∙ rw (select_out a s e, keep_false t a l e)

    pub select_lasts : (l : List A) → select t (lasts f l) ≡ lasts f (select t l)
    unfolding lasts
    select_lasts l = select_put_all [] l tt ∙ unfold select in refl

  pub lasts_snoc : (l : List A) (a : A) → lasts f (l ++ a ∷ []) ≡ put f a (lasts f l)
  unfolding lasts
  lasts_snoc l a = put_all_append f [] l (a ∷ []) ∙ unfold put_all in refl

  put_short : (a : A) (l : List A) → length (put f a l) ≤ suc (length l)
  put_short a [] = unfold put in omega arith
  put_short a (b ∷ l) = go (order f a b) (put_short a l)
    where
      go : Order f a b → length (put f a l) ≤ suc (length l) → length (put f a (b ∷ l)) ≤ suc (suc (length l))
      go (before p) i = rw (put_lt f a b l p) (omega arith)
      go (level p) i = rw (put_eq f a b l p) (omega arith)
      go (after p) i = rw (put_gt f a b l p) (omega arith)

  put_all_short : (s l : List A) → length (put_all f s l) ≤ length s + length l
  unfolding put_all
  put_all_short s [] = omega arith
  put_all_short s (a ∷ l) = let x = put_all_short (put f a s) l in let y = put_short a s in omega arith

  pub lasts_short : (l : List A) → length (lasts f l) ≤ length l
  unfolding lasts
  lasts_short l = let x = put_all_short [] l in omega arith
