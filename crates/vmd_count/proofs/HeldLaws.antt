-- Laws of what the places hold, for any key f.
use Prim.Native.Nat.{ℕ, zero, suc, ◌+◌, ◌-◌, ◌≤◌, ◌<◌}
use mathlib.Core.Path.{◌≡◌, refl, ap, sym, ◌∙◌, subst}
use mathlib.Core.Bool.{Bool, true, false, not}
use mathlib.Core.List.{List}
use native.Mathlib.Omega.{arith}
use mir.Val.{bool_byte}
use Rattle.std.specs.Prelude.{Option, None, Some, is_some}
use Rattle.vmd_count.specs.Rowed.{bound}
use native.Mathlib.Decide.{ℕ_discrete}
use borrow.Author.Tests.{eq-eqb, ltb-true, ltb-false, eqb-true, eqb-false}
use lib.ListN.{length, get_or, set, length-set}
use lib.Dec.{ltb, eqb}
use lib.Seq.{get_or-set_same, get_or-set_other}
use Rattle.vmd_keys.specs.Keys.{top}
use Rattle.vmd_keys.specs.Heap.{Swaps, Ascending, Held}
use Rattle.vmd_keys.specs.HeapLaws.{swaps_from, swaps_to}
use Rattle.vmd_count.specs.Held.{low, high, Inside, Found, Marked, free, mark, Holds, Row, Fresh, start, other, again, step_if, Firsts, Earlier, Wanted, wanted, under, over, seen}

module _ (f : ℕ → ℕ) where
  -- keeping one of each name
  pub firsts_start : (l : List ℕ) → Firsts f 0 l 0 l
  firsts_start l = record {
    behind = omega arith;
    long = refl;
    ahead = λ p h. refl;
    from = λ p h. absurd (omega arith);
    to = λ q h. absurd (omega arith);
    rise = λ p q h g. absurd (omega arith);
    last = λ h. absurd (omega arith);
  }

  module _ {k j : ℕ} {l b : List ℕ} (w : Firsts f k l j b) (x : ℕ) (h : k < length l) (e : x ≡ get_or l k 0) where
    past : (p : ℕ) → ¬ (p ≡ j) → get_or (set b j x) p 0 ≡ get_or b p 0
    past p d = get_or-set_other b j p x 0 d

    here : get_or (set b j x) j 0 ≡ x
    here = let g = w.long in let d = w.behind in get_or-set_same b j x 0 (omega arith)

    ahead_next : (p : ℕ) → k + 1 ≤ p → get_or (set b j x) p 0 ≡ get_or l p 0
    ahead_next p g = let d = w.behind in past p (λ (z : p ≡ j). omega arith) ∙ w.ahead p (omega arith)

    from_before : (p : ℕ) → p < j → Held (k + 1) l (get_or (set b j x) p 0)
    from_before p g =
        let c = w.from p g in
        let t = c.there in
        record { place = c.place; there = omega arith; is = past p (λ (z : p ≡ j). omega arith) ∙ c.is }

    found_before : (n v : ℕ) → j ≤ n → Found f j b v → Found f n (set b j x) v
    found_before n v g c =
        let t = c.there in
        record { p = c.p; there = omega arith; is = ap f (past c.p (λ (z : c.p ≡ j). omega arith)) ∙ c.is }

    rise_before : (p q : ℕ) → p < q → q < j → f (get_or (set b j x) p 0) < f (get_or (set b j x) q 0)
    rise_before p q g t = rw (past p (λ (z : p ≡ j). omega arith), past q (λ (z : q ≡ j). omega arith)) (w.rise p q g t)

    firsts_new : ((p : ℕ) → p < j → f (get_or b p 0) < f x) → Firsts f (k + 1) l (j + 1) (set b j x)
    firsts_new less = record {
      behind = omega (arith, w.behind);
      long = length-set b j x ∙ w.long;
      ahead = ahead_next;
      from = λ p g. from p g (ℕ_discrete p j);
      to = λ q g. to q g (ℕ_discrete q k);
      rise = λ p q g t. rise p q g t (ℕ_discrete q j);
      last = λ g. let u : j + 1 - 1 ≡ j = omega arith in let v : k + 1 - 1 ≡ k = omega arith in (omega arith, rw (u, v, here) (ap f e));
    }
      where
        from : (p : ℕ) → p < j + 1 → Dec (p ≡ j) → Held (k + 1) l (get_or (set b j x) p 0)
        from p g (yes q) = rw (q, here) (record { place = k; there = omega arith; is = e })
        from p g (no q) = from_before p (omega arith)

        to : (q : ℕ) → q < k + 1 → Dec (q ≡ k) → Found f (j + 1) (set b j x) (f (get_or l q 0))
        to q g (yes z) = record { p = j; there = omega arith; is = ap f (here ∙ e ∙ ap (λ t. get_or l t 0) (sym z)) }
        to q g (no z) = found_before (j + 1) (f (get_or l q 0)) (omega arith) (w.to q (omega arith))

        rise : (p q : ℕ) → p < q → q < j + 1 → Dec (q ≡ j) → f (get_or (set b j x) p 0) < f (get_or (set b j x) q 0)
        rise p q g t (yes z) = rw (z, here, past p (λ (y : p ≡ j). omega arith)) (less p (omega arith))
        rise p q g t (no z) = rise_before p q g (omega arith)

    firsts_again : 0 < j → f (get_or b (j - 1) 0) ≡ f x → Firsts f (k + 1) l j (set b j x)
    firsts_again pos same = record {
      behind = omega (arith, w.behind);
      long = length-set b j x ∙ w.long;
      ahead = ahead_next;
      from = from_before;
      to = λ q g. to q g (ℕ_discrete q k);
      rise = rise_before;
      last = λ g. let v : k + 1 - 1 ≡ k = omega arith in (pos, rw (v, past (j - 1) (λ (z : j - 1 ≡ j). omega arith)) (same ∙ ap f e));
    }
      where
        to : (q : ℕ) → q < k + 1 → Dec (q ≡ k) → Found f j (set b j x) (f (get_or l q 0))
        to q g (yes z) =
            let u = past (j - 1) (λ (y : j - 1 ≡ j). omega arith) in
            record { p = j - 1; there = omega arith; is = ap f u ∙ same ∙ ap f (e ∙ ap (λ t. get_or l t 0) (sym z)) }
        to q g (no z) = found_before j (f (get_or l q 0)) (omega arith) (w.to q (omega arith))

  pub firsts_turn : {k j m : ℕ} {l b : List ℕ} (r : Bool) → Firsts f k l j b → k < m → m ≤ length l → Ascending f m l
      → Fresh f b j (get_or b k 0) r → Firsts f (k + 1) l (step_if r j) (set b j (get_or b k 0))
  firsts_turn {k} {j} {m} {l} {b} r w h g a (start z) =
      unfold step_if in
      firsts_new w (get_or b k 0) (omega arith) (w.ahead k (omega arith)) (λ (p : ℕ) (y : p < j). absurd (omega arith))
  firsts_turn {k} {j} {m} {l} {b} r w h g a (again z d) =
      unfold step_if in firsts_again w (get_or b k 0) (omega arith) (w.ahead k (omega arith)) z d
  firsts_turn {k} {j} {m} {l} {b} r w h g a (other z d) =
      unfold step_if in firsts_new w (get_or b k 0) (omega arith) (w.ahead k (omega arith)) less
    where
      bound : f (get_or b (j - 1) 0) < f (get_or b k 0)
      bound =
          let y = w.behind in
          let u = (w.last (omega arith)).1 in
          let v = a.up (k - 1) k (omega arith) h in
          let t = ap f (w.ahead k (omega arith)) in
          differ (f (get_or b (j - 1) 0)) (f (get_or b k 0)) d (omega arith)
        where
          differ : (a b : ℕ) → ¬ (a ≡ b) → a ≤ b → a < b
          differ a b x y = omega arith

      less : (p : ℕ) → p < j → f (get_or b p 0) < f (get_or b k 0)
      less p y = on (ℕ_discrete p (j - 1))
        where
          on : Dec (p ≡ j - 1) → f (get_or b p 0) < f (get_or b k 0)
          on (yes q) = rw q bound
          on (no q) = let u = w.rise p (j - 1) (omega arith) (omega arith) in let v = bound in omega arith

  -- sorted and with one of each name
  pub sorted_row : {floor ceil i m k : ℕ} {a l b : List ℕ} → Holds f floor ceil i m a → Swaps m a l → Firsts f m l k b
      → Row f i (low f floor) (high f ceil) k b
  sorted_row {floor} {ceil} {i} {m} {k} {a} {l} {b} w s r = record { rise = r.rise; each = each; all = λ x h. all x (w.all x h) }
    where
      each : (p : ℕ) → p < k → Inside f i (low f floor) (high f ceil) (get_or b p 0)
      each p h =
          let u = r.from p h in
          let v = swaps_from s u.place u.there in
          subst (Inside f i (low f floor) (high f ceil)) (sym (u.is ∙ v.is)) (w.each v.place v.there)

      all : (x : ℕ) → Found f m a (f x) → Found f k b (f x)
      all x c =
          let u = swaps_to s c.p c.there in
          let v = r.to u.place u.there in
          record { p = v.p; there = v.there; is = v.is ∙ ap f (sym u.is) ∙ c.is }

  pub row_holds : {floor ceil i k : ℕ} {b : List ℕ} → Row f i (low f floor) (high f ceil) k b → Marked f (low f floor) i ceil
      → Holds f floor ceil i k b
  row_holds w q = record { each = w.each; all = w.all; marked = q }

  -- cut after c: its name is the ceiling
  row_cut : {floor hi i k : ℕ} {b : List ℕ} (c : ℕ) → c < k → Row f i (low f floor) hi k b
      → Holds f floor (suc (get_or b c 0)) i (suc c) b
  unfolding high
  row_cut {floor} {hi} {i} {k} {b} c h w = record {
    each = λ p g. each p g (ℕ_discrete p c);
    all = λ x g. all x g (w.all x (wider x g));
    marked = let u = w.each c h in mark (get_or b c 0) u.small u.least;
  }
    where
      each : (p : ℕ) → p < suc c → Dec (p ≡ c) → Inside f i (low f floor) (suc (f (get_or b c 0))) (get_or b p 0)
      each p g (yes e) = let u = w.each c h in rw e (record { small = u.small; least = u.least; most = omega arith })
      each p g (no d) =
          let u = w.each p (omega arith) in
          let v = w.rise p c (omega arith) h in
          record { small = u.small; least = u.least; most = omega arith }

      wider : (x : ℕ) → Inside f i (low f floor) (suc (f (get_or b c 0))) x → Inside f i (low f floor) hi x
      wider x g =
          let u = (w.each c h).most in
          let v = g.most in
          record { small = g.small; least = g.least; most = omega arith }

      all : (x : ℕ) → Inside f i (low f floor) (suc (f (get_or b c 0))) x → Found f k b (f x) → Found f (suc c) b (f x)
      all x g u = on (ℕ_discrete u.p c)
        where
          on : Dec (u.p ≡ c) → Found f (suc c) b (f x)
          on (yes e) = record { p = u.p; there = omega arith; is = u.is }
          on (no d) =
              let m = g.most in
              let q = u.is in
              let t = u.there in
              record { p = u.p; there = less u.p d t (λ (z : c < u.p). let v = w.rise c u.p z t in omega arith); is = q }
            where
              less : (p : ℕ) → ¬ (p ≡ c) → p < k → (c < p → ⊥) → p < suc c
              less p y t v = go (ℕ_discrete (p - c) 0)
                where
                  go : Dec (p - c ≡ 0) → p < suc c
                  go (yes e) = omega arith
                  go (no e) = absurd (v (omega arith))

  pub row_cut_at : {floor hi i k : ℕ} {b : List ℕ} (c m ceil : ℕ) → m ≡ suc c → ceil ≡ suc (get_or b c 0) → c < k
      → Row f i (low f floor) hi k b → Holds f floor ceil i m b
  row_cut_at {floor} {hi} {i} {k} {b} c m ceil p q h w = rw (p, q) (row_cut c h w)

  -- one record more
  inside_more : {i lo hi x : ℕ} → Inside f i lo hi x → Inside f (i + 1) lo hi x
  inside_more u = let s = u.small in record { small = omega arith; least = u.least; most = u.most }

  marked_more : {lo i ceil : ℕ} → Marked f lo i ceil → Marked f lo (i + 1) ceil
  marked_more free = free
  marked_more (mark g a b) = mark g (omega arith) b

  pub holds_start : (floor : ℕ) (b : List ℕ) → Holds f floor 0 0 0 b
  holds_start floor b = record { each = λ p h. absurd (omega arith); all = λ x h. absurd (omega (arith, h.small)); marked = free }

  holds_skip : {floor ceil i m : ℕ} {b : List ℕ} → Holds f floor ceil i m b
      → (Inside f (i + 1) (low f floor) (high f ceil) i → Found f m b (f i)) → Holds f floor ceil (i + 1) m b
  holds_skip {floor} {ceil} {i} {m} {b} w t = record {
    each = λ p h. inside_more (w.each p h);
    all = λ x h. all x h (ℕ_discrete x i);
    marked = marked_more w.marked;
  }
    where
      all : (x : ℕ) → Inside f (i + 1) (low f floor) (high f ceil) x → Dec (x ≡ i) → Found f m b (f x)
      all x h (yes e) = rw e (t (rw e at h))
      all x h (no d) = w.all x (let s = h.small in record { small = omega arith; least = h.least; most = h.most })

  holds_low : {floor ceil i m : ℕ} {b : List ℕ} → Holds f floor ceil i m b → f i < low f floor
      → Holds f floor ceil (i + 1) m b
  holds_low w h = holds_skip w (λ u. absurd (omega (arith, u.least)))

  holds_seen : {floor ceil i m : ℕ} {b : List ℕ} → Holds f floor ceil i m b → Earlier f i → Holds f floor ceil (i + 1) m b
  holds_seen {floor} {ceil} {i} {m} {b} w c = holds_skip w (λ u. subst (Found f m b) c.is (w.all c.e (inside u)))
    where
      inside : Inside f (i + 1) (low f floor) (high f ceil) i → Inside f i (low f floor) (high f ceil) c.e
      inside u =
          let x = u.least in
          let y = u.most in
          let z = c.is in
          record { small = c.there; least = omega arith; most = omega arith }

  holds_high : {floor ceil i m : ℕ} {b : List ℕ} → Holds f floor ceil i m b → ¬ (ceil ≡ 0) → f (ceil - 1) ≤ f i
      → Holds f floor ceil (i + 1) m b
  holds_high {floor} {ceil} {i} {m} {b} w d h = go w.marked w d h
    where
      go : {c : ℕ} → Marked f (low f floor) i c → Holds f floor c i m b → ¬ (c ≡ 0) → f (c - 1) ≤ f i
          → Holds f floor c (i + 1) m b
      go free w d h = absurd (d refl)
      go (mark g x y) w d h = holds_skip w (λ u. on u)
        where
          unfolding_high : high f (suc g) ≡ suc (f g)
          unfolding_high = unfold high in refl

          on : Inside f (i + 1) (low f floor) (high f (suc g)) i → Found f m b (f i)
          on u =
              let t = unfolding_high in
              let v = u.most in
              let q : suc g - 1 ≡ g = omega arith in
              let z = ap f q in
              let e : f g ≡ f i = omega arith in
              subst (Found f m b) e (w.all g (record { small = x; least = y; most = omega arith }))

  holds_add : {floor ceil i m : ℕ} {b : List ℕ} → Holds f floor ceil i m b → m < length b → low f floor ≤ f i
      → f i < high f ceil → Holds f floor ceil (i + 1) (m + 1) (set b m i)
  holds_add {floor} {ceil} {i} {m} {b} w h x y = record {
    each = λ p g. each p g (ℕ_discrete p m);
    all = λ z g. all z g (ℕ_discrete z i);
    marked = marked_more w.marked;
  }
    where
      each : (p : ℕ) → p < m + 1 → Dec (p ≡ m) → Inside f (i + 1) (low f floor) (high f ceil) (get_or (set b m i) p 0)
      each p g (yes e) = rw (e, get_or-set_same b m i 0 h) (record { small = omega arith; least = x; most = y })
      each p g (no d) = rw (get_or-set_other b m p i 0 d) (inside_more (w.each p (omega arith)))

      all : (z : ℕ) → Inside f (i + 1) (low f floor) (high f ceil) z → Dec (z ≡ i) → Found f (m + 1) (set b m i) (f z)
      all z g (yes e) = record { p = m; there = omega arith; is = ap f (get_or-set_same b m i 0 h ∙ sym e) }
      all z g (no d) =
          let s = g.small in
          let c = w.all z (record { small = omega arith; least = g.least; most = g.most }) in
          let t = c.there in
          record { p = c.p; there = omega arith; is = ap f (get_or-set_other b m c.p i 0 (λ (q : c.p ≡ m). omega arith)) ∙ c.is }

  -- floors and ceilings
  pub low_none : {c : ℕ} → c ≡ 0 → low f c ≡ 0
  unfolding low
  low_none e = rw e

  pub low_some : (c : ℕ) → ¬ (c ≡ 0) → low f c ≡ suc (f (c - 1))
  unfolding low
  low_some zero d = absurd (d refl)
  low_some (suc c) d = let e : suc c - 1 ≡ c = omega arith in rw e

  pub high_none : {c : ℕ} → c ≡ 0 → high f c ≡ top
  unfolding high
  high_none e = rw e

  pub high_some : (c : ℕ) → ¬ (c ≡ 0) → high f c ≡ suc (f (c - 1))
  unfolding high
  high_some zero d = absurd (d refl)
  high_some (suc c) d = let e : suc c - 1 ≡ c = omega arith in rw e

  marked_above : {lo i c : ℕ} → Marked f lo i c → ¬ (c ≡ 0) → lo ≤ f (c - 1)
  marked_above free d = absurd (d refl)
  marked_above (mark g x y) d = let e : suc g - 1 ≡ g = omega arith in rw e y

  -- tests of floors, ceilings and places kept
  true_false : {A : Type 0} → true ≡ false → A
  true_false e = let z : ◌≡◌ {A = ℕ} 0 1 = cc in absurd (omega arith)

  pub above_none : (c x : ℕ) → c ≡ 0 → (true ≡ true → low f c ≤ f x) × (true ≡ false → f x < low f c)
  above_none c x e = ((λ z. rw (low_none e) (omega arith)), (λ z. true_false z))

  pub above_some : (c x : ℕ) (r : Bool) → ¬ (c ≡ 0) → r ≡ ltb (f (c - 1)) (f x)
      → (r ≡ true → low f c ≤ f x) × (r ≡ false → f x < low f c)
  above_some c x r d e = (
    (λ z. rw (low_some c d) (ltb-true (f (c - 1)) (f x) (sym e ∙ z))),
    (λ z. let u = ltb-false (f (c - 1)) (f x) (sym e ∙ z) in rw (low_some c d) (omega arith)),
  )

  pub below_none : (c x : ℕ) → f x < top → c ≡ 0 → (true ≡ true → f x < high f c) × (true ≡ false → ¬ (c ≡ 0) × (f (c - 1) ≤ f x))
  below_none c x h e = ((λ z. rw (high_none e) h), (λ z. true_false z))

  pub below_some : (c x : ℕ) (r : Bool) → ¬ (c ≡ 0) → r ≡ ltb (f x) (f (c - 1))
      → (r ≡ true → f x < high f c) × (r ≡ false → ¬ (c ≡ 0) × (f (c - 1) ≤ f x))
  below_some c x r d e = (
    (λ z. let u = ltb-true (f x) (f (c - 1)) (sym e ∙ z) in rw (high_some c d) (omega arith)),
    (λ z. (d, ltb-false (f x) (f (c - 1)) (sym e ∙ z))),
  )

  pub fresh_first : (b : List ℕ) (j x : ℕ) → j ≡ 0 → Fresh f b j x (eqb j 0)
  fresh_first b j x e = let q : eqb j 0 ≡ true = eq-eqb j 0 e in rw q (start e)

  pub fresh_later : (b : List ℕ) (j x : ℕ) (r : Bool) → ¬ (j ≡ 0) → r ≡ eqb (f (get_or b (j - 1) 0)) (f x) → Fresh f b j x (not r)
  fresh_later b j x true d e = again (omega arith) (eqb-true (f (get_or b (j - 1) 0)) (f x) (sym e))
  fresh_later b j x false d e = other (omega arith) (eqb-false (f (get_or b (j - 1) 0)) (f x) (sym e))

  pub holds_unwanted : {floor ceil i m : ℕ} {b : List ℕ} → Holds f floor ceil i m b → (r : Bool) → r ≡ false
      → Wanted f floor ceil i r → Holds f floor ceil (i + 1) m b
  holds_unwanted w r e (wanted x y) = true_false e
  holds_unwanted w r e (under h) = holds_low w h
  holds_unwanted w r e (over d h) = holds_high w d h
  holds_unwanted w r e (seen c) = holds_seen w c

  pub holds_wanted : {floor ceil i m : ℕ} {b : List ℕ} → Holds f floor ceil i m b → m < length b → (r : Bool) → r ≡ true
      → Wanted f floor ceil i r → Holds f floor ceil (i + 1) (m + 1) (set b m i)
  holds_wanted w h r e (wanted x y) = holds_add w h x y
  holds_wanted w h r e (under x) = true_false (sym e)
  holds_wanted w h r e (over d x) = true_false (sym e)
  holds_wanted w h r e (seen c) = true_false (sym e)

  pub low_high : (floor : ℕ) {ceil i : ℕ} → ((x : ℕ) → f x < top) → Marked f (low f floor) i ceil → low f floor ≤ high f ceil
  low_high floor {ceil} {i} h q = go q
    where
      low_top : (c : ℕ) → low f c ≤ top
      low_top zero = unfold low in omega arith
      low_top (suc c) = unfold low in h c

      go : {c : ℕ} → Marked f (low f floor) i c → low f floor ≤ high f c
      go free = rw (high_none refl) (low_top floor)
      go (mark g x y) = rw (high_some (suc g) (λ (z : suc g ≡ 0). omega arith)) (let e : suc g - 1 ≡ g = omega arith in rw e (omega arith))

  -- the next floor lies higher
  pub floor_rises : (floor : ℕ) {ceil i : ℕ} → ((x : ℕ) → f x < top) → Marked f (low f floor) i ceil → ¬ (ceil ≡ 0)
      → top - low f ceil < top - low f floor
  floor_rises floor {ceil} {i} h q d = let x = marked_above q d in let y = h (ceil - 1) in let e = low_some ceil d in omega arith

  -- of all that keeps a record out, an earlier record of its name is asked for last
  pub wanted_last : (floor ceil i r : ℕ) → low f floor ≤ f i → f i < high f ceil → r ≤ i → f r ≡ f i
      → Wanted f floor ceil i (eqb r i)
  wanted_last floor ceil i r x y h e = go (eqb r i) refl
    where
      go : (b : Bool) → eqb r i ≡ b → Wanted f floor ceil i b
      go true p = wanted x y
      go false p = let d = eqb-false r i p in seen (record { e = r; there = omega arith; is = e })

  -- a floor and a ceiling that are records
  pub above_record : (g x : ℕ) (r : Bool) → r ≡ ltb (f g) (f x) → (r ≡ true → low f (suc g) ≤ f x) × (r ≡ false → f x < low f (suc g))
  above_record g x r e =
      let q : suc g - 1 ≡ g = omega arith in
      above_some (suc g) x r (λ (z : suc g ≡ 0). omega arith) (rw q e)

  pub below_record : (g x : ℕ) (r : Bool) → r ≡ ltb (f x) (f g)
      → (r ≡ true → f x < high f (suc g)) × (r ≡ false → ¬ (suc g ≡ 0) × (f (suc g - 1) ≤ f x))
  below_record g x r e =
      let q : suc g - 1 ≡ g = omega arith in
      below_some (suc g) x r (λ (z : suc g ≡ 0). omega arith) (rw q e)

pub step_sum : (on : Bool) (j : ℕ) → j + bool_byte on ≡ step_if on j
unfolding step_if
step_sum true j = refl
step_sum false j = omega arith

-- what `is_none` tells of a floor or a ceiling
pub bound_none : (o : Option ℕ) (t : Bool) → is_some o ≡ not t → t ≡ true → bound o ≡ 0
bound_none None t h e = refl
bound_none (Some g) t h e = absurd cc

pub bound_some : (o : Option ℕ) (t : Bool) → is_some o ≡ not t → t ≡ false → ¬ (bound o ≡ 0)
bound_some None t h e = absurd cc
bound_some (Some g) t h e = λ z. omega arith
