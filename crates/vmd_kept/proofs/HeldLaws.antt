-- Laws of what the places hold.
use Prim.Native.Nat.{ℕ, suc, ◌+◌, ◌-◌, ◌≤◌, ◌<◌}
use mathlib.Core.Path.{◌≡◌, refl, ap, sym, ◌∙◌}
use mathlib.Core.Bool.{Bool, true, false, not}
use mathlib.Core.List.{List, [], ◌∷◌, ◌++◌, append-nil}
use native.Mathlib.Omega.{arith}
use lib.Dec.{ltb}
use lib.ListN.{length, get_or, set, take, length-append, length-set}
use lib.Seq.{take-take, length-take-le, get_or-take, take_at, take_all, take-suc-set}
use Rattle.vmd_laws.specs.ReadLaws.{All, all_append}
use Rattle.vmd_keys.specs.Names.{select}
use Rattle.vmd_keys.specs.Heap.{Swaps, Ascending}
use Rattle.vmd_keys.specs.HeapLaws.{swaps_length}
use Rattle.vmd_count.specs.DistinctLaws.{member_all, all_select, select_passed, select_append}
use Rattle.vmd_tracks.specs.Tracks.{put, lasts}
use Rattle.vmd_tracks.proofs.TrackLaws.{keep_true, keep_false, all_map, all_lasts, lasts_sorted, lasts_some}
use Rattle.vmd_tracks.specs.Sorted.{Sorted}
use Rattle.vmd_tracks.proofs.RankedLaws.{sorted_select}
use Rattle.vmd_sort.specs.Order.{rank}
use Rattle.vmd_sort.specs.SortLaws.{all_at}
use Rattle.vmd_sort.specs.declared.VmdOrder.TheVariants as order
use Rattle.vmd_kept.specs.Window.{above, between, Rising, Holds, Cut, whole, part}
use Rattle.vmd_kept.proofs.LastsLaws.{select_lasts, lasts_snoc}
use Rattle.vmd_kept.proofs.Resorted.{Resorted, resorted}
use Rattle.vmd_kept.proofs.WindowLaws.{select_two, between_above, between_less, first_ones}

sorted_snoc : (l : List ℕ) (x : ℕ) → Sorted (λ x. x) l → All (λ y. y < x) l → Sorted (λ x. x) (l ++ x ∷ [])
sorted_snoc [] x h k = (tt, tt)
sorted_snoc (a ∷ l) x h k = (all_append _ l (x ∷ []) h.0 (k.0, tt), sorted_snoc l x h.1 k.1)

-- with a place more
pub rising_put : (n x : ℕ) (u : List ℕ) → x < n → Rising x u → Rising n (u ++ x ∷ [])
rising_put n x u h r = record {
  sorted = sorted_snoc u x r.sorted r.before;
  before = all_append _ u (x ∷ []) (all_map _ _ u (λ y (k : y < x). omega arith) r.before) (h, tt);
}

-- sorted by a number that is the place itself
pub sorted_like : (g : ℕ → ℕ) → ((x : ℕ) → g x ≡ x) → (l : List ℕ) → Sorted (λ x. x) l → Sorted g l
sorted_like g e [] h = tt
sorted_like g e (a ∷ l) h = (all_map _ _ l (λ b (k : a < b). let p = e a in let q = e b in omega arith) h.0, sorted_like g e l h.1)

module _ (f : ℕ → ℕ) where
  -- what the places hold: at the start, and with one place more
  pub holds_start : (floor p : ℕ) → Holds f floor 0 p [] []
  holds_start floor p = record {
    rising = record { sorted = tt; before = tt };
    same = unfold select in refl;
    marked = λ d. absurd (d refl);
  }

  pub holds_wider : {floor ceil p q : ℕ} {u l : List ℕ} → p ≤ q → Holds f floor ceil p u l → Holds f floor ceil q u l
  holds_wider {u = u} h w = record {
    rising = record { sorted = w.rising.sorted; before = all_map _ _ u (λ x (y : x < _). omega arith) w.rising.before };
    same = w.same;
    marked = w.marked;
  }

  module _ {floor ceil x : ℕ} {u l : List ℕ} (w : Holds f floor ceil x u l) where
    abbrev t : ℕ → Bool
    t = between f floor ceil

    snoc : select t (l ++ x ∷ []) ≡ select t l ++ select t (x ∷ [])
    snoc = select_append t l (x ∷ [])

    pub holds_skip : t x ≡ false → Holds f floor ceil (x + 1) u (l ++ x ∷ [])
    holds_skip e = holds_wider (omega arith) (record {
      rising = w.rising;
      same = w.same ∙ ap (lasts f) (sym (snoc ∙ rw (keep_false t x [] e) (unfold select in append-nil _)));
      marked = w.marked;
    })

    pub holds_add : t x ≡ true → Holds f floor ceil (x + 1) (u ++ x ∷ []) (l ++ x ∷ [])
    holds_add e = record {
      rising = rising_put (x + 1) x u (omega arith) w.rising;
      same = lasts_snoc f u x ∙ ap (put f x) w.same ∙ sym (lasts_snoc f (select t l) x)
          ∙ ap (lasts f) (sym (snoc ∙ rw (keep_true t x [] e) (unfold select in refl)));
      marked = λ d. let m = w.marked d in (m.0, omega (arith, m.1, length-append u (x ∷ [])));
    }

  -- what stays of full places: the last ones by key up to a ceiling, in the order of their keys
  pub record Stays (floor c p : ℕ) (t l : List ℕ) : Type 0 where
    pub sorted : Sorted f t
    pub before : All (λ x. x < p) t
    pub is : t ≡ lasts f (select (between f floor c) l)
    pub marked : ¬ (c ≡ 0) → above f floor (c - 1) ≡ true
    pub some : 0 < length t

  -- they go back into file order
  back : {floor c p : ℕ} {t u l : List ℕ} → Stays floor c p t l → Resorted f t u → Holds f floor c p u l
  back {p = p} {t = t} {u = u} v r = record {
    rising = record { sorted = r.sorted; before = all_map _ _ u (λ x y. member_all (λ z. z < p) x t v.before y) r.among };
    same = r.same ∙ v.is;
    marked = λ d. (v.marked d, omega (arith, r.long, v.some));
  }

  module _ {floor ceil p : ℕ} {a l : List ℕ} (w : Holds f floor ceil p a l) (some : 0 < length a) where
    before_all : All (λ x. x < p) (lasts f a)
    before_all = all_lasts f _ a w.rising.before

    all_stay : Stays floor ceil p (lasts f a) l
    all_stay = record {
      sorted = lasts_sorted f a;
      before = before_all;
      is = w.same;
      marked = λ d. (w.marked d).0;
      some = lasts_some f a some;
    }

    first_stay : (k : ℕ) → k < length (lasts f a) → Stays floor (suc (get_or (lasts f a) k 0)) p (take (suc k) (lasts f a)) l
    first_stay k h = record {
      sorted = rw first (sorted_select f g (lasts f a) (lasts_sorted f a));
      before = rw first (all_select _ g (lasts f a) before_all);
      is = first
          ∙ ap (select g) w.same
          ∙ select_lasts f g (λ x y e. goes x y e) (select (between f floor ceil) l)
          ∙ ap (lasts f) (select_two g (between f floor ceil) (between f floor (suc c)) l (λ x. between_less f floor ceil c x there));
      marked = λ d. let e : suc c - 1 ≡ c = omega arith in rw e (between_above f floor ceil c there);
      some = omega (arith, length-take-le (suc k) (lasts f a) h);
    }
      where
        c : ℕ
        c = get_or (lasts f a) k 0

        g : ℕ → Bool
        g x = not (ltb (f c) (f x))

        goes : (x y : ℕ) → f x ≡ f y → g x ≡ g y
        goes x y e = rw e

        first : take (suc k) (lasts f a) ≡ select g (lasts f a)
        first = first_ones f (lasts f a) k (lasts_sorted f a) h

        there : between f floor ceil c ≡ true
        there = all_at (λ x. between f floor ceil x ≡ true) (lasts f a)
            (rw w.same (all_lasts f _ (select (between f floor ceil) l) (select_passed (between f floor ceil) l))) k h

    -- b begins with the last ones by key
    cut_stays : {c k m : ℕ} {b : List ℕ} → k ≤ length b → take k b ≡ lasts f a → Cut k b ceil m c → Stays floor c p (take m b) l
    cut_stays {b = b} g e (whole x i j) = rw (j, i, e) all_stay
    cut_stays {c} {k} {b = b} g e (part x i j) =
        let n : length (lasts f a) ≡ k = ap length (sym e) ∙ length-take-le k b g in
        let d : get_or (lasts f a) 16383 0 ≡ get_or b 16383 0 = ap (λ t. get_or t 16383 0) (sym e) ∙ get_or-take k b 16383 0 (omega arith) in
        let o : c ≡ suc (get_or (lasts f a) 16383 0) = omega arith in
        let q : take 16384 b ≡ take (suc 16383) (lasts f a) = sym (take-take 16384 k b (omega arith)) ∙ ap (take 16384) e in
        rw (i, o, q) (first_stay 16383 (omega arith))

pub cut_few : {k ceil m c : ℕ} {l : List ℕ} → Cut k l ceil m c → (m ≤ k) × (m ≤ 16384)
cut_few (whole h d e) = (omega arith, omega arith)
cut_few (part h d e) = (omega arith, omega arith)

-- LAW: what squeezing leaves
pub squeezed : (f : ℕ → ℕ) (s : List ℕ) (floor p ceil c k m : ℕ) (a b u r l : List ℕ) → 0 < length a
    → k ≤ length b → take k b ≡ lasts f a → Cut k b ceil m c
    → Ascending (rank order.Number s) (length (take m b)) u → Swaps (length (take m b)) (take m b) u
    → Holds f floor ceil p a l → Holds f floor c p (take m (u ++ r)) l
squeezed f s floor p ceil c k m a b u r l h g e q y z w =
    let v = cut_stays f w h g e q in
    let few = (cut_few q).0 in
    rw (take_at u r m (swaps_length z ∙ length-take-le m b (omega arith))) (back f v (resorted f s (take m b) u v.sorted y z))

-- a place put after those held
pub put_last : (a : List ℕ) (m x : ℕ) → m < length a → take (m + 1) (set a m x) ≡ take m a ++ x ∷ []
put_last a m x h = let e : m + 1 ≡ suc m = omega arith in rw e (take-suc-set a m x h)

pub put_full : (a : List ℕ) (m x : ℕ) → m + 1 ≡ length a → set a m x ≡ take m a ++ x ∷ []
put_full a m x e = sym (take_all (m + 1) (set a m x) (omega (arith, length-set a m x))) ∙ put_last a m x (omega arith)
