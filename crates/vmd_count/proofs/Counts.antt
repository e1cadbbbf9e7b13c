-- Counting: the names whose keys lie below a bound, and with them those of a row above it.
use Prim.Native.Nat.{ℕ, zero, suc, ◌+◌, ◌*◌, ◌≤◌, ◌<◌}
use mathlib.Core.Path.{◌≡◌, refl, ap, sym, ◌∙◌, subst}
use mathlib.Core.Logic.{◌⊎◌, inl, inr}
use mathlib.Core.List.{List, [], ◌∷◌, map}
use native.Mathlib.Omega.{arith}
use native.Mathlib.Decide.{ℕ_discrete, dec_le}
use native.Mathlib.Nat.{mul-suc}
use native.Mathlib.Numerals.{add-one}
use borrow.Author.Tests.{lt-ltb, le-ltb}
use lib.ListN.{length, get_or, length-append, length-map}
use Rattle.vmd_laws.specs.BytesLaws.{Bytes}
use Rattle.vmd_format.specs.Parts.{upto}
use Rattle.vmd_laws.specs.PartsLaws.{all_map, upto_length, upto_below}
use Rattle.vmd_format.specs.Read.{write_all}
use Rattle.vmd_laws.specs.ReadLaws.{All}
use Rattle.vmd_keys.specs.declared.VmdCut.{VmdCut}
use Rattle.vmd_keys.specs.declared.VmdCut.TheVariants as cut
use Rattle.vmd_keys.specs.Names.{name_in, names_in, cut_name, cut_names, distinct}
use Rattle.vmd_keys.specs.NameLaws.{cut_each}
use Rattle.vmd_keys.specs.Keys.{top, spot, key}
use Rattle.vmd_keys.proofs.KeyLaws.{cut_good, spot_in, key_tells, key_top}
use Rattle.vmd_count.specs.DistinctLaws.{all_then, map_same, member_named, Once, here, there, all_distinct, distinct_short, once_distinct}
use Rattle.vmd_count.specs.Held.{low, high, name_length, sum_of, name_key, weight_if, sum_below, weight_below, one, Found, Row, Tallied}
use Rattle.vmd_count.proofs.HeldLaws.{low_none, low_some, high_none, high_some}

-- ---- names by any number v, with any weight w

module _ (v w : List ℕ → ℕ) where
  -- a name that does not lie between two bounds
  abbrev Clear : ℕ → ℕ → List ℕ → Type 0
  Clear lo hi d = (v d < lo) ⊎ (hi ≤ v d)

  below_in : (d : List ℕ) (l : List (List ℕ)) (hi : ℕ) → v d < hi → sum_below v w hi (d ∷ l) ≡ w d + sum_below v w hi l
  unfolding sum_below weight_if
  below_in d l hi h = rw (lt-ltb (v d) hi h)

  below_out : (d : List ℕ) (l : List (List ℕ)) (hi : ℕ) → hi ≤ v d → sum_below v w hi (d ∷ l) ≡ sum_below v w hi l
  unfolding sum_below weight_if
  below_out d l hi h = rw (le-ltb (v d) hi h) (omega arith)

  -- no name lies between the two bounds
  below_same : (lo hi : ℕ) (l : List (List ℕ)) → lo ≤ hi → All (Clear lo hi) l → sum_below v w lo l ≡ sum_below v w hi l
  below_same lo hi [] g h = unfold sum_below in refl
  below_same lo hi (d ∷ l) g h = go h.0 (below_same lo hi l g h.1)
    where
      go : Clear lo hi d → sum_below v w lo l ≡ sum_below v w hi l → sum_below v w lo (d ∷ l) ≡ sum_below v w hi (d ∷ l)
      go (inl a) e = rw (below_in d l lo a, below_in d l hi (omega arith), e)
      go (inr a) e = rw (below_out d l lo (omega arith), below_out d l hi a, e)

  -- one name does
  below_step : (lo : ℕ) (m : List ℕ) (l : List (List ℕ)) → lo ≤ v m → Once m l → All (λ d. (d ≡ m) ⊎ Clear lo (suc (v m)) d) l
      → sum_below v w lo l + w m ≡ sum_below v w (suc (v m)) l
  below_step lo m [] g x h = elim x [ ]
  below_step lo m (d ∷ l) g (here n) h =
      let e = below_same lo (suc (v m)) l (omega arith) (rest l n h.1) in
      rw (below_out m l lo g, below_in m l (suc (v m)) (omega arith)) (omega arith)
    where
      clear : (d : List ℕ) → ¬ (d ≡ m) → (d ≡ m) ⊎ Clear lo (suc (v m)) d → Clear lo (suc (v m)) d
      clear d p (inl e) = absurd (p e)
      clear d p (inr e) = e

      rest : (l : List (List ℕ)) → All (λ d. ¬ (d ≡ m)) l → All (λ d. (d ≡ m) ⊎ Clear lo (suc (v m)) d) l
          → All (Clear lo (suc (v m))) l
      rest [] p q = tt
      rest (d ∷ l) p q = (clear d p.0 q.0, rest l p.1 q.1)
  below_step lo m (d ∷ l) g (there n o) h = go h.0 (below_step lo m l g o h.1)
    where
      go : (d ≡ m) ⊎ Clear lo (suc (v m)) d → sum_below v w lo l + w m ≡ sum_below v w (suc (v m)) l
          → sum_below v w lo (d ∷ l) + w m ≡ sum_below v w (suc (v m)) (d ∷ l)
      go (inl e) r = absurd (n e)
      go (inr (inl a)) r = rw (below_in d l lo a, below_in d l (suc (v m)) (omega arith)) (omega arith)
      go (inr (inr a)) r = rw (below_out d l lo (omega arith), below_out d l (suc (v m)) a) r

  below_none : (l : List (List ℕ)) → sum_below v w 0 l ≡ 0
  below_none [] = unfold sum_below in refl
  below_none (d ∷ l) = rw (below_out d l 0 (omega arith)) (below_none l)

  below_most : (c hi : ℕ) (l : List (List ℕ)) → All (λ d. w d ≤ c) l → sum_below v w hi l ≤ c * length l
  below_most c hi [] h = unfold sum_below in omega arith
  below_most c hi (d ∷ l) h = go (dec_le (suc (v d)) hi) (below_most c hi l h.1) (mul-suc c (length l)) h.0
    where
      go : Dec (suc (v d) ≤ hi) → sum_below v w hi l ≤ c * length l → c * suc (length l) ≡ c * length l + c → w d ≤ c
          → sum_below v w hi (d ∷ l) ≤ c * suc (length l)
      go (yes a) r e k = rw (below_in d l hi a) (omega arith)
      go (no a) r e k = rw (below_out d l hi (omega arith)) (omega arith)

-- every name lies below the bound
module _ (v : List ℕ → ℕ) (hi : ℕ) where
  names_all : (l : List (List ℕ)) → All (λ d. v d < hi) l → sum_below v one hi l ≡ length l
  names_all [] h = unfold sum_below in refl
  names_all (d ∷ l) h = let e = names_all l h.1 in rw (below_in v one d l hi h.0) (omega arith)

  bytes_all : (l : List (List ℕ)) → All (λ d. v d < hi) l → sum_below v length hi l ≡ length (write_all (λ d. d) l)
  bytes_all [] h = unfold sum_below write_all in refl
  bytes_all (d ∷ l) h = go (bytes_all l h.1)
    where
      go : sum_below v length hi l ≡ length (write_all (λ d. d) l)
          → sum_below v length hi (d ∷ l) ≡ length (write_all (λ d. d) (d ∷ l))
      go e = unfold write_all in rw (below_in v length d l hi h.0, e, length-append d (write_all (λ d. d) l))

-- ---- the distinct names of n records

module _ (nm : ℕ → List ℕ) (n : ℕ) where
  abbrev all_names : List (List ℕ)
  all_names = distinct (map nm (upto 0 n))

  each_name : (P : List ℕ → Type 0) → ((i : ℕ) → i < n → P (nm i)) → All P all_names
  each_name P h =
      let b = upto_below n 0 n (omega arith) in
      all_distinct P (map nm (upto 0 n)) (all_map P nm (λ i x y. h i x) (upto 0 n) b b)

  names_few : length all_names ≤ n
  names_few = let x = distinct_short (map nm (upto 0 n)) in let y = length-map (upto 0 n) nm ∙ upto_length 0 n in omega arith

  module _ (v w : List ℕ → ℕ) (tells : (i j : ℕ) → v (nm i) ≡ v (nm j) → nm i ≡ nm j) (lo hi k : ℕ) (b : List ℕ)
      (r : Row (λ i. v (nm i)) n lo hi k b) where
    abbrev num : ℕ → ℕ
    num i = v (nm i)

    -- the least number after the first j of the row
    next : ℕ → ℕ
    next zero = lo
    next (suc j) = suc (num (get_or b j 0))

    next_low : (j : ℕ) → j ≤ k → lo ≤ next j
    unfolding next
    next_low zero h = omega arith
    next_low (suc j) h = let u = (r.each j h).least in omega arith

    next_le : (j : ℕ) → j < k → next j ≤ num (get_or b j 0)
    unfolding next
    next_le zero h = (r.each 0 h).least
    next_le (suc j) h = r.rise j (suc j) (omega arith) h

    passed : (j p : ℕ) → p < j → j ≤ k → num (get_or b p 0) < next j
    unfolding next
    passed zero p h g = absurd (omega arith)
    passed (suc j) p h g = go (ℕ_discrete p j)
      where
        go : Dec (p ≡ j) → num (get_or b p 0) < suc (num (get_or b j 0))
        go (yes e) = rw e (omega arith)
        go (no d) = let u = r.rise p j (omega arith) g in omega arith

    -- a name of the section from the next number on is that of a later place
    later : (j i : ℕ) → j ≤ k → i < n → next j ≤ num i → num i < hi → Found num k b (num i)
    later j i h g x y = r.all i (let u = next_low j h in record { small = g; least = omega arith; most = y })

    not_passed : (j i p : ℕ) → j ≤ k → next j ≤ num i → num (get_or b p 0) ≡ num i → p < j → ⊥
    not_passed j i p h x e l = let u = passed j p l h in omega arith

    split : (j i : ℕ) → j < k → i < n → (nm i ≡ nm (get_or b j 0)) ⊎ Clear v w (next j) (suc (num (get_or b j 0))) (nm i)
    split j i h g = on (dec_le (suc (num i)) (next j)) (dec_le (suc (num (get_or b j 0))) (num i))
      where
        on : Dec (suc (num i) ≤ next j) → Dec (suc (num (get_or b j 0)) ≤ num i)
            → (nm i ≡ nm (get_or b j 0)) ⊎ Clear v w (next j) (suc (num (get_or b j 0))) (nm i)
        on (yes x) y = inr (inl x)
        on (no x) (yes y) = inr (inr y)
        on (no x) (no y) =
            let m = (r.each j h).most in
            let c = later j i (omega arith) g (omega arith) (omega arith) in
            inl (at c.p c.is c.there (dec_le (suc c.p) j) (ℕ_discrete c.p j))
          where
            at : (p : ℕ) → num (get_or b p 0) ≡ num i → p < k → Dec (suc p ≤ j) → Dec (p ≡ j) → nm i ≡ nm (get_or b j 0)
            at p e t (yes l) q = absurd (not_passed j i p (omega arith) (omega arith) e l)
            at p e t (no l) (yes q) = tells i (get_or b j 0) (sym e ∙ ap (λ z. num (get_or b z 0)) q)
            at p e t (no l) (no q) = let u = r.rise j p (omega arith) t in absurd (omega arith)

    prefix : (j : ℕ) → j ≤ k → sum_below v w lo all_names + sum_of (λ x. w (nm x)) j b ≡ sum_below v w (next j) all_names
    prefix zero h = unfold next sum_of in omega arith
    prefix (suc j) h =
        let e = prefix j (omega arith) in
        let m = member_named nm 0 n (get_or b j 0) (omega arith) (omega (arith, (r.each j h).small)) in
        let once = once_distinct (nm (get_or b j 0)) (map nm (upto 0 n)) m in
        let u = below_step v w (next j) (nm (get_or b j 0)) all_names (next_le j h) once (each_name _ (λ i x. split j i h x)) in
        more e u
      where
        more : sum_below v w lo all_names + sum_of (λ x. w (nm x)) j b ≡ sum_below v w (next j) all_names
            → sum_below v w (next j) all_names + w (nm (get_or b j 0)) ≡ sum_below v w (suc (num (get_or b j 0))) all_names
            → sum_below v w lo all_names + sum_of (λ x. w (nm x)) (suc j) b ≡ sum_below v w (next (suc j)) all_names
        more e u = unfold next sum_of in omega arith

    -- LAW: the names below the row and those of the row are the names below its end
    row_counts : lo ≤ hi → sum_below v w lo all_names + sum_of (λ x. w (nm x)) k b ≡ sum_below v w hi all_names
    row_counts le =
        prefix k (omega arith)
        ∙ below_same v w (next k) hi all_names (next_hi k (omega arith))
        (each_name _ (λ i x. on i x (dec_le (suc (num i)) (next k)) (dec_le hi (num i))))
      where
        next_hi : (j : ℕ) → j ≤ k → next j ≤ hi
        next_hi zero h = unfold next in le
        next_hi (suc j) h = unfold next in (r.each j h).most

        on : (i : ℕ) → i < n → Dec (suc (num i) ≤ next k) → Dec (hi ≤ num i) → (num i < next k) ⊎ (hi ≤ num i)
        on i g (yes x) y = inl x
        on i g (no x) (yes y) = inr y
        on i g (no x) (no y) =
            let c = later k i (omega arith) g (omega arith) (omega arith) in
            absurd (not_passed k i c.p (omega arith) (omega arith) c.is c.there)

sum_ones : (k : ℕ) (b : List ℕ) → sum_of (λ x. 1) k b ≡ k
unfolding sum_of
sum_ones zero b = refl
sum_ones (suc k) b = let e = sum_ones k b in omega arith

-- ---- a section of a file

module _ (c : VmdCut) (s : List ℕ) (at size n : ℕ) where
  abbrev found : List (List ℕ)
  found = distinct (cut_names c (names_in s at size n))

  abbrev spot_name : ℕ → List ℕ
  spot_name i = cut_name c (name_in s (spot at size n i))

  found_is : distinct (map spot_name (upto 0 n)) ≡ found
  unfolding names_in
  found_is =
      ap distinct (map_same spot_name (λ i. cut_name c (name_in s (at + size * i))) (upto 0 n)
      (all_then (λ i. i < n) (λ i. spot_name i ≡ cut_name c (name_in s (at + size * i))) (λ i h. ap (λ (p : ℕ). cut_name c (name_in s p)) (spot_in at size n i h)) (upto 0 n) (upto_below n 0 n (omega arith)))
      ∙ sym (cut_each c (λ i. name_in s (at + size * i)) (upto 0 n)))

  row_weighs : Bytes s → (w : List ℕ → ℕ) (lo hi k : ℕ) (b : List ℕ) → Row (key c s at size n) n lo hi k b → lo ≤ hi
      → weight_below c s at size n w lo + sum_of (λ x. w (spot_name x)) k b ≡ weight_below c s at size n w hi
  unfolding key name_key weight_below
  row_weighs bs w lo hi k b r h = rw (← found_is) (row_counts spot_name n name_key w (key_tells c s at size n bs) lo hi k b r h)

  pub row_names : Bytes s → (lo hi k : ℕ) (b : List ℕ) → Row (key c s at size n) n lo hi k b → lo ≤ hi
      → weight_below c s at size n one lo + k ≡ weight_below c s at size n one hi
  row_names bs lo hi k b r h = let e = row_weighs bs one lo hi k b r h in let q = sum_ones k b in omega arith

  pub row_bytes : Bytes s → (lo hi k x : ℕ) (b : List ℕ) → Row (key c s at size n) n lo hi k b → lo ≤ hi
      → x ≡ sum_of (name_length c s at size n) k b → weight_below c s at size n length lo + x ≡ weight_below c s at size n length hi
  unfolding name_length
  row_bytes bs lo hi k x b r h e = rw e (row_weighs bs length lo hi k b r h)

  found_each : (P : List ℕ → Type 0) → ((i : ℕ) → P (spot_name i)) → All P found
  found_each P h = subst (All P) found_is (each_name spot_name n P (λ i x. h i))

  found_few : length found ≤ n
  found_few = subst (λ z. length z ≤ n) found_is (names_few spot_name n)

  pub names_most : (hi : ℕ) → weight_below c s at size n one hi ≤ n
  unfolding weight_below
  names_most hi = let x = below_most name_key one 1 hi found (found_each _ (λ i. omega arith)) in let y = found_few in omega arith

  pub bytes_most : Bytes s → (hi : ℕ) → weight_below c s at size n length hi ≤ 15 * n
  unfolding weight_below
  bytes_most bs hi =
      let x = below_most name_key length 15 hi found (found_each _ (λ i. (cut_good c s bs (spot at size n i)).short)) in
      let y = found_few in omega arith

  found_top : Bytes s → All (λ d. name_key d < top) found
  unfolding name_key key
  found_top bs = found_each _ (λ i. key_top c s at size n bs i)

  names_whole : Bytes s → weight_below c s at size n one top ≡ length found
  unfolding weight_below
  names_whole bs = names_all name_key top found (found_top bs)

  bytes_whole : Bytes s → weight_below c s at size n length top ≡ length (write_all (λ d. d) found)
  unfolding weight_below
  bytes_whole bs = bytes_all name_key top found (found_top bs)

pub none_found : (c : VmdCut) (s : List ℕ) (at size n : ℕ) → n ≡ 0
    → (0 ≡ length (distinct (cut_names c (names_in s at size n)))) × (0 ≡ length (write_all (λ d. d) (distinct (cut_names c (names_in s at size n)))))
unfolding names_in upto distinct write_all
none_found cut.Whole s at size n e = rw e (refl, refl)
none_found cut.LineFeed s at size n e = rw e (refl, refl)

-- the lengths of one place more
pub sum_start : (c : VmdCut) (s : List ℕ) (at size n : ℕ) (b : List ℕ) → 0 ≡ sum_of (name_length c s at size n) 0 b
unfolding sum_of
sum_start c s at size n b = refl

pub sum_turn : (c : VmdCut) (s : List ℕ) (at size n i sum x : ℕ) (b : List ℕ) → sum ≡ sum_of (name_length c s at size n) i b
    → x ≡ length (cut_name c (name_in s (spot at size n (get_or b i 0)))) → sum + x ≡ sum_of (name_length c s at size n) (i + 1) b
sum_turn c s at size n i sum x b e d = rw add-one (go d)
  where
    go : x ≡ length (cut_name c (name_in s (spot at size n (get_or b i 0)))) → sum + x ≡ sum_of (name_length c s at size n) (suc i) b
    go d = unfold sum_of name_length in rw (e, d)

-- ---- pass after pass

module _ (c : VmdCut) (s : List ℕ) (at size n : ℕ) where
  abbrev f : ℕ → ℕ
  f = key c s at size n

  pub count_start : (w : List ℕ → ℕ) → 0 ≡ weight_below c s at size n w (low f 0)
  unfolding weight_below
  count_start w = rw (low_none f {c = 0} refl) (sym (below_none name_key w (distinct (cut_names c (names_in s at size n)))))

  module _ (floor ceil names bytes x y : ℕ) (p : names ≡ weight_below c s at size n one (low f floor))
      (q : bytes ≡ weight_below c s at size n length (low f floor)) (t : Tallied c s at size n floor ceil x y) where
    pub count_more : ¬ (ceil ≡ 0)
        → (names + x ≡ weight_below c s at size n one (low f ceil)) × (bytes + y ≡ weight_below c s at size n length (low f ceil))
    count_more d =
        let e : high f ceil ≡ low f ceil = high_some f ceil d ∙ sym (low_some f ceil d) in
        (rw (p, ← e) t.names_add, rw (q, ← e) t.bytes_add)

    pub count_end : Bytes s → ceil ≡ 0
        → (names + x ≡ length (distinct (cut_names c (names_in s at size n))))
        × (bytes + y ≡ length (write_all (λ d. d) (distinct (cut_names c (names_in s at size n)))))
    count_end bs e =
        let h = high_none f e in (
          ap (λ z. z + x) p ∙ t.names_add ∙ ap (weight_below c s at size n one) h ∙ names_whole c s at size n bs,
          ap (λ z. z + y) q ∙ t.bytes_add ∙ ap (weight_below c s at size n length) h ∙ bytes_whole c s at size n bs,
        )
