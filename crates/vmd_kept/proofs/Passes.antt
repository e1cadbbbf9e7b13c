-- Laws of a pass over the records, and of pass after pass.
use Prim.Native.Nat.{ℕ, zero, suc, ◌+◌, ◌*◌, ◌-◌, ◌≤◌, ◌<◌}
use mathlib.Core.Path.{◌≡◌, refl, ap, sym, ◌∙◌, subst}
use mathlib.Core.Bool.{true}
use mathlib.Core.List.{List, [], ◌∷◌, ◌++◌}
use native.Mathlib.Omega.{arith}
use native.Mathlib.Decide.{ℕ_discrete}
use borrow.Author.Tests.{ltb-true, lt-ltb}
use lib.ListN.{length, take}
use lib.Seq.{length-take-le}
use Rattle.vmd_laws.specs.ReadLaws.{All}
use Rattle.vmd_laws.specs.BytesLaws.{Bytes}
use Rattle.vmd_keys.specs.Names.{select}
use Rattle.vmd_tracks.specs.Tracks.{lasts}
use Rattle.vmd_tracks.proofs.TrackLaws.{select_all, lasts_some}
use Rattle.vmd_sort.specs.Walk.{step, places_by, end_by, states_there, total}
use Rattle.vmd_kept.specs.Window.{above, between, Holds}
use Rattle.vmd_kept.proofs.LastsLaws.{select_lasts, lasts_short}
use Rattle.vmd_sort.specs.WalkLaws.{places_snoc, end_snoc, places_count, end_within, step_past}
use Rattle.vmd_kept.proofs.Totals.{one, total_one, total_split, total_most, states_small}
use Rattle.vmd_kept.proofs.WindowLaws.{between_same}
use Rattle.vmd_kept.proofs.HeldLaws.{holds_start, holds_wider}

-- a pass: what it starts with, one record more, and its end
module _ (s : List ℕ) (size at : ℕ) where
  pub pass_within : (n i p : ℕ) → end_by (step s size) n at ≤ length s → i < n → p ≡ end_by (step s size) i at
      → (p < length s) × (step s size p ≤ length s)
  pass_within n i p h k e =
      let x = end_within (step s size) (step_past s size) i n at k in
      let y = step_past s size p in
      let z = ap (step s size) e in
      (omega arith, omega arith)

  module _ (f : ℕ → ℕ) where
    pub pass_start : (floor : ℕ) (a : List ℕ) → (at ≡ end_by (step s size) 0 at) × Holds f floor 0 at (take 0 a) (places_by (step s size) 0 at)
    unfolding places_by end_by
    pass_start floor a = (refl, holds_start f floor at)

    pub pass_turn : {floor ceil : ℕ} {u : List ℕ} (i p q : ℕ) → p ≡ end_by (step s size) i at → q ≡ step s size p
        → Holds f floor ceil (p + 1) u (places_by (step s size) i at ++ p ∷ [])
        → (q ≡ end_by (step s size) (i + 1) at) × Holds f floor ceil q u (places_by (step s size) (i + 1) at)
    pass_turn {floor} {ceil} {u} i p q e d w =
        let h = step_past s size p in (
          d ∙ ap (step s size) e ∙ sym (end_snoc (step s size) i at),
          subst (Holds f floor ceil q u) (ap {B = List ℕ} (λ x. places_by (step s size) i at ++ x ∷ []) e ∙ sym (places_snoc (step s size) i at))
              (holds_wider f (omega arith) w),
        )

    pub pass_end : {floor ceil : ℕ} {u : List ℕ} (n i p e : ℕ) → i ≡ n → p ≡ end_by (step s size) i at → end_by (step s size) n at ≤ e
        → Holds f floor ceil p u (places_by (step s size) i at) → Holds f floor ceil e u (places_by (step s size) n at)
    pass_end {floor} {ceil} {u} n i p e d q h w =
        let k = ap (λ i. end_by (step s size) i at) d in
        subst (λ i. Holds f floor ceil e u (places_by (step s size) i at)) d (holds_wider f (omega arith) w)

-- what a pass found, counted
pub tallied : (w : ℕ → ℕ) (k v : ℕ) (b l : List ℕ) → take k b ≡ l → k ≤ length b → v ≡ total w (take k b) → (k ≡ length l) × (v ≡ total w l)
tallied w k v b l e h d = (sym (length-take-le k b h) ∙ ap length e, d ∙ ap (total w) e)

-- what was counted, with what lies above the floor, is all
pub record Counted (f w : ℕ → ℕ) (l : List ℕ) (floor records sum : ℕ) : Type 0 where
  pub records_all : records + length (select (above f floor) (lasts f l)) ≡ length (lasts f l)
  pub sum_all : sum + total w (select (above f floor) (lasts f l)) ≡ total w (lasts f l)

module _ (f w : ℕ → ℕ) where
  every : (l : List ℕ) → All (λ x. above f 0 x ≡ true) l
  unfolding above
  every [] = tt
  every (a ∷ l) = (refl, every l)

  pub counted_start : (l : List ℕ) → Counted f w l 0 0 0
  counted_start l =
      let e = select_all (above f 0) (lasts f l) (every (lasts f l)) in
      let x = ap length e in
      let y = ap (total w) e in
      record { records_all = omega arith; sum_all = omega arith }

  above_then : (floor g x : ℕ) → above f floor g ≡ true → above f (suc g) x ≡ true → above f floor x ≡ true
  unfolding above
  above_then zero g x a b = refl
  above_then (suc h) g x a b =
      let p = ltb-true (f h) (f g) a in let q = ltb-true (f g) (f x) b in lt-ltb (f h) (f x) (omega arith)

  module _ {l u : List ℕ} {floor ceil p : ℕ} (h : Holds f floor ceil p u l) where
    found : lasts f u ≡ select (between f floor ceil) (lasts f l)
    found = h.same ∙ sym (select_lasts f (between f floor ceil) (between_same f floor ceil) l)

    apart : (v : ℕ → ℕ) → ¬ (ceil ≡ 0) → total v (lasts f u) + total v (select (above f ceil) (lasts f l)) ≡ total v (select (above f floor) (lasts f l))
    unfolding between
    apart v d = rw found (go ceil d (h.marked d).0)
      where
        go : (c : ℕ) → ¬ (c ≡ 0) → above f floor (c - 1) ≡ true
            → total v (select (between f floor c) (lasts f l)) + total v (select (above f c) (lasts f l)) ≡ total v (select (above f floor) (lasts f l))
        go zero d m = absurd (d refl)
        go (suc g) d m =
            let e : suc g - 1 ≡ g = omega arith in
            let k : above f floor g ≡ true = rw e at m in
            total_split v (above f floor) (above f (suc g)) (λ x. above_then floor g x k) (lasts f l)

    rest : (v : ℕ → ℕ) → ceil ≡ 0 → total v (lasts f u) ≡ total v (select (above f floor) (lasts f l))
    unfolding between
    rest v z = rw (found, z)

    module _ {records sum x y : ℕ} (k : Counted f w l floor records sum) (d : x ≡ length (lasts f u)) (e : y ≡ total w (lasts f u)) where
      pub counted_turn : ¬ (ceil ≡ 0) → Counted f w l ceil (records + x) (sum + y)
      counted_turn z =
          let a = apart one z in
          let b = apart w z in
          let i = total_one (lasts f u) in
          let j = total_one (select (above f ceil) (lasts f l)) in
          let m = total_one (select (above f floor) (lasts f l)) in
          record { records_all = omega (arith, k.records_all); sum_all = omega (arith, k.sum_all) }

      pub counted_end : ceil ≡ 0 → (records + x ≡ length (lasts f l)) × (sum + y ≡ total w (lasts f l))
      counted_end z =
          let a = rest one z in
          let b = rest w z in
          let i = total_one (lasts f u) in
          let m = total_one (select (above f floor) (lasts f l)) in
          (omega (arith, k.records_all), omega (arith, k.sum_all))

      pub counted_fits : (records + x ≤ length (lasts f l)) × (sum + y ≤ total w (lasts f l))
      counted_fits = go (ℕ_discrete ceil 0)
        where
          go : Dec (ceil ≡ 0) → (records + x ≤ length (lasts f l)) × (sum + y ≤ total w (lasts f l))
          go (yes z) = let r = counted_end z in (omega (arith, r.0), omega (arith, r.1))
          go (no z) = let r = counted_turn z in (omega (arith, r.records_all), omega (arith, r.sum_all))

      pub counted_less : ¬ (ceil ≡ 0) → length (select (above f ceil) (lasts f l)) < length (select (above f floor) (lasts f l))
      counted_less z =
          let r = counted_turn z in
          let m = lasts_some f u (h.marked z).1 in
          omega (arith, k.records_all, r.records_all)

-- what is kept fits its numbers
pub kept_few : (f : ℕ → ℕ) (s : List ℕ) (size n at : ℕ) → Bytes s
    → (length (lasts f (places_by (step s size) n at)) ≤ n) × (total (states_there s) (lasts f (places_by (step s size) n at)) ≤ n * 4294967295)
kept_few f s size n at b =
    let l = lasts f (places_by (step s size) n at) in
    let x = lasts_short f (places_by (step s size) n at) in
    let y = places_count (step s size) n at in
    let z = total_most (states_there s) 4294967295 (states_small s b) l in
    (omega arith, omega arith)
