-- Laws of sums over places.
use Prim.Native.Nat.{ℕ, suc, ◌+◌, ◌*◌, ◌≤◌, ◌<◌}
use mathlib.Core.Path.{◌≡◌, refl}
use mathlib.Core.Bool.{Bool, true, not, ◌&&◌}
use mathlib.Core.List.{List, [], ◌∷◌, ◌++◌}
use native.Mathlib.Omega.{arith}
use lib.ListN.{length, get_or, take}
use lib.Seq.{take-suc}
use Rattle.vmd_laws.specs.BytesLaws.{Bytes}
use Rattle.vmd_keys.specs.Names.{select}
use Rattle.vmd_tracks.proofs.TrackLaws.{Test, passed, failed, test, keep_true, keep_false}
use Rattle.vmd_sort.specs.Order.{there}
use Rattle.vmd_sort.specs.OrderLaws.{there_small}
use Rattle.vmd_sort.specs.Walk.{states_there, total}

abbrev pub one : ℕ → ℕ
one p = 1

pub total_one : (l : List ℕ) → total one l ≡ length l
unfolding total
total_one [] = refl
total_one (p ∷ l) = let x = total_one l in omega arith

module _ (w : ℕ → ℕ) where
  pub total_snoc : (l : List ℕ) (p : ℕ) → total w (l ++ p ∷ []) ≡ total w l + w p
  unfolding total
  total_snoc [] p = omega arith
  total_snoc (q ∷ l) p = let x = total_snoc l p in omega arith

  pub total_most : (c : ℕ) → ((p : ℕ) → w p ≤ c) → (l : List ℕ) → total w l ≤ length l * c
  unfolding total
  total_most c h [] = omega arith
  total_most c h (p ∷ l) = let x = total_most c h l in let y = h p in omega arith

  -- those that pass a test, apart by a second one
  pub total_split : (t v : ℕ → Bool) → ((p : ℕ) → v p ≡ true → t p ≡ true) → (l : List ℕ)
      → total w (select (λ p. t p && not (v p)) l) + total w (select v l) ≡ total w (select t l)
  total_split t v h [] = unfold total select in refl
  total_split t v h (p ∷ l) = go (test (t p)) (test (v p)) (total_split t v h l)
    where
      go : Test (t p) → Test (v p) → total w (select (λ p. t p && not (v p)) l) + total w (select v l) ≡ total w (select t l)
          → total w (select (λ p. t p && not (v p)) (p ∷ l)) + total w (select v (p ∷ l)) ≡ total w (select t (p ∷ l))
      go (passed a) (passed b) i =
          rw (keep_false (λ p. t p && not (v p)) p l (rw (a, b)), keep_true v p l b, keep_true t p l a) (unfold total in omega arith)
      go (passed a) (failed b) i =
          rw (keep_true (λ p. t p && not (v p)) p l (rw (a, b)), keep_false v p l b, keep_true t p l a) (unfold total in omega arith)
      go (failed a) (passed b) i = let z : ◌≡◌ {A = ℕ} 0 1 = (let r = h p b in cc) in absurd (omega arith)
      go (failed a) (failed b) i =
          rw (keep_false (λ p. t p && not (v p)) p l (rw a), keep_false v p l b, keep_false t p l a) i

pub states_small : (s : List ℕ) → Bytes s → (p : ℕ) → states_there s p ≤ 4294967295
unfolding states_there
states_small s b p = let h = there_small s (p + 5) b in omega arith

-- adding up what the first places say
module _ (s a : List ℕ) where
  pub weigh_start : 0 ≡ total (states_there s) (take 0 a)
  unfolding total
  weigh_start = refl

  pub weigh_turn : (i sum v : ℕ) → Bytes s → i < length a
      → (sum ≡ total (states_there s) (take i a)) × (sum ≤ i * 4294967295) → v ≡ there s (get_or a i 0 + 5)
      → (sum + v ≡ total (states_there s) (take (i + 1) a)) × (sum + v ≤ (i + 1) * 4294967295)
  unfolding states_there
  weigh_turn i sum v b h w d =
      let q : i + 1 ≡ suc i = omega arith in
      let few = there_small s (get_or a i 0 + 5) b in (
        rw (q, take-suc a i 0 h, total_snoc (states_there s) (take i a) (get_or a i 0), w.0, d),
        omega (arith, w.1),
      )
