-- What a name table means: its names are the distinct names of some records in order of first appearance, and a record's index
-- leads to its name.
use Rattle.std.specs.Prelude.{ℕ, zero, suc, ◌+◌, ◌-◌, ◌≤◌, ◌<◌, ◌≡◌, refl, ◌↔◌, Bool, ltb, length, get_or, drop, take}
use Rattle.std.proofs.Common.{ap, sym, ◌∙◌, inl, inr, ⊎_elim, arith, zero-add, eq-or-lt_of_le, ltb-true, ltb-false, eqb-true, eq-eqb, leb-true, le-leb, length-append, length-drop, take-append-drop, drop_of_length-le, length-take-le, drop-drop, ext_get_or}
use Rattle.std.proofs.Math.Bool.{true, false, and-eq-true_iff}
use mathlib.Core.List.{List, [], ◌∷◌, ◌++◌}
use Rattle.std.proofs.lemmas.Bool.{not-true}
use Rattle.std.proofs.Math.ListN.{length-map}
use Rattle.std.proofs.Math.Seq.{take-append_seam, drop-append_seam}
use Rattle.vmd_format.specs.Read.{write_all}
use Rattle.vmd_laws.specs.ReadLaws.{All}
use Rattle.vmd_format.specs.Take.{same}
use Rattle.vmd_format.specs.Parts.{NameTable, names_from, names_of, ends_right, table_right}
use Rattle.vmd_keys.specs.Names.{keep_if, select, distinct}
use Rattle.vmd_count.specs.DistinctLaws.{same_refl, Names, equal, apart, names, all_select, select_passed, Member, all_members, member_all, apart_from, all_distinct}
use Rattle.vmd_tables.specs.Tables.{joined, ends_from, table_of_names, index_if, index_of, name_table, name_indices}
use Rattle.vmd_tables.proofs.TableLaws.{member_distinct, index_tells, at_map, ends_length}

-- ---- the names that a table holds, and its ends

names_joined : (l : List (List ℕ)) (at : ℕ) (s : List ℕ) → drop at s ≡ joined l → names_from at (ends_from at l) s ≡ l
unfolding joined write_all names_from ends_from
names_joined [] at s e = refl
names_joined (n ∷ l) at s e =
    let w : at + length n - at ≡ length n = omega arith in
    let next : drop (at + length n) s ≡ joined l = sym (drop-drop (length n) at s) ∙ rw e (drop-append_seam n (joined l)) in
    rw (w, e, take-append_seam n (joined l), names_joined l (at + length n) s next)

-- a table of names holds these names
names_of_table : (l : List (List ℕ)) → names_of (table_of_names l) ≡ l
unfolding names_of table_of_names
names_of_table l = names_joined l 0 (joined l) refl

ends_joined : (l : List (List ℕ)) (at : ℕ) → ends_right at (ends_from at l) (at + length (joined l)) ≡ true
unfolding joined write_all ends_from ends_right
ends_joined [] at = eq-eqb at (at + 0) (omega arith)
ends_joined (n ∷ l) at =
    let w : at + length (n ++ joined l) ≡ at + length n + length (joined l) = omega (arith, length-append n (joined l)) in
    rw (le-leb at (at + length n) (omega arith), w) (ends_joined l (at + length n))

-- its ends never fall and end with its bytes
table_ends_right : (l : List (List ℕ)) → table_right (table_of_names l) ≡ true
unfolding table_right table_of_names
table_ends_right l = rw zero-add at (ends_joined l 0)

ends_below : (l : List (List ℕ)) (at i : ℕ) → get_or (ends_from at l) i 0 ≤ at + length (joined l)
unfolding joined write_all ends_from
ends_below [] at i = omega arith
ends_below (n ∷ l) at zero = omega (arith, length-append n (joined l))
ends_below (n ∷ l) at (suc i) = omega (arith, length-append n (joined l), ends_below l (at + length n) i)

-- no end passes its bytes
pub table_ends_below : (l : List (List ℕ)) (i : ℕ) → get_or (table_of_names l).ends i 0 ≤ length (table_of_names l).bytes
unfolding table_of_names
table_ends_below l i = rw zero-add at (ends_below l 0 i)

-- ---- which names

select_member : (f : List ℕ → Bool) (n : List ℕ) (l : List (List ℕ)) → Member n (select f l) → Member n l
select_member f n l = member_all (λ m. Member m l) n (select f l) (all_select (λ m. Member m l) f l (all_members (λ m. Member m l) l (λ m i. i)))

-- the distinct names are those of the list
distinct_member : (n : List ℕ) (l : List (List ℕ)) → Member n (distinct l) → Member n l
distinct_member n l = member_all (λ m. Member m l) n (distinct l) (all_distinct (λ m. Member m l) l (all_members (λ m. Member m l) l (λ m i. i)))

-- a fact of each distinct name is a fact of each
pub distinct_all : (P : List ℕ → Type 0) (l : List (List ℕ)) → All P (distinct l) → All P l
distinct_all P l h = all_members P l (λ n i. member_all P n (distinct l) h (member_distinct n l i))

getD_member : (l : List (List ℕ)) (i : ℕ) → i < length l → Member (get_or l i []) l
getD_member [] i h = absurd (omega arith)
getD_member (n ∷ l) zero h = inl refl
getD_member (n ∷ l) (suc i) h = inr (getD_member l i (omega arith))

-- ---- indices

index_step : (b : Bool) (i : ℕ) → index_if b i ≤ suc i
unfolding index_if
index_step true i = omega arith
index_step false i = omega arith

index_below : (n : List ℕ) (l : List (List ℕ)) → Member n l → index_of n l < length l
unfolding index_of index_if
index_below n [] h = absurd h
index_below n (m ∷ l) (inl e) = rw (e, same_refl m) (omega arith)
index_below n (m ∷ l) (inr h) = omega (arith, index_step (same n m) (index_of n l), index_below n l h)

-- of any name
pub index_most : (n : List ℕ) (l : List (List ℕ)) → index_of n l ≤ length l
unfolding index_of
index_most n [] = omega arith
index_most n (m ∷ l) = omega (arith, index_step (same n m) (index_of n l), index_most n l)

-- no place before it holds the name
pub index_first : (n : List ℕ) (l : List (List ℕ)) (i : ℕ) → i < index_of n l → get_or l i [] ≡ n → ⊥
unfolding index_of index_if
index_first n [] i h e = omega arith
index_first n (m ∷ l) i h e = go (same n m) refl i h e (index_first n l)
  where
    go : (b : Bool) → same n m ≡ b → (i : ℕ) → i < index_if b (index_of n l) → get_or (m ∷ l) i [] ≡ n
        → ((j : ℕ) → j < index_of n l → get_or l j [] ≡ n → ⊥) → ⊥
    go true q i h e k = omega arith
    go false q zero h e k =
        let r : same n m ≡ true = rw e (same_refl n) in
        let z : ◌≡◌ {A = ℕ} 0 1 = cc (q, r) in omega arith
    go false q (suc i) h e k = k i (omega arith) e

-- ---- in order of first appearance

-- names by numbers, each below those of the names after it
module _ (f : List ℕ → ℕ) where
  abbrev Rising : List (List ℕ) → Type 0
  Rising [] = Unit {0}
  Rising (n ∷ l) = ((m : List ℕ) → Member m l → f n < f m) × Rising l

  rising_select : (g : List ℕ → Bool) (l : List (List ℕ)) → Rising l → Rising (select g l)
  unfolding select keep_if
  rising_select g [] h = tt
  rising_select g (n ∷ l) h = go (g n) (rising_select g l h.1)
    where
      go : (b : Bool) → Rising (select g l) → Rising (keep_if b n (select g l))
      go true k = (λ m i. h.0 m (select_member g m l i), k)
      go false k = k

  rising_at : (l : List (List ℕ)) → Rising l → (i j : ℕ) → i < j → j < length l → f (get_or l i []) < f (get_or l j [])
  rising_at [] h i j k m = absurd (omega arith)
  rising_at (n ∷ l) h i zero k m = absurd (omega arith)
  rising_at (n ∷ l) h zero (suc j) k m = h.0 (get_or l j []) (getD_member l j (omega arith))
  rising_at (n ∷ l) h (suc i) (suc j) k m = rising_at l h.1 i j (omega arith) (omega arith)

  rising_once : (l : List (List ℕ)) → Rising l → (i j : ℕ) → i < length l → j < length l → get_or l i [] ≡ get_or l j [] → i ≡ j
  rising_once l h i j k g e = go (ltb i j) refl (ap f e)
    where
      go : (b : Bool) → ltb i j ≡ b → f (get_or l i []) ≡ f (get_or l j []) → i ≡ j
      go true o q = absurd (omega (arith, rising_at l h i j (ltb-true i j o) g))
      go false o q =
          ⊎_elim (λ r. sym r) (λ (r : j < i). absurd (omega (arith, rising_at l h j i r k))) (eq-or-lt_of_le (ltb-false i j o))

rising_later : (f g : List ℕ → ℕ) (l : List (List ℕ)) → ((n : List ℕ) → Member n l → g n ≡ suc (f n)) → Rising f l → Rising g l
rising_later f g [] e h = tt
rising_later f g (n ∷ l) e h =
    (λ m i. omega (arith, h.0 m i, e n (inl refl), e m (inr i)), rising_later f g l (λ m i. e m (inr i)) h.1)

same_flip : (n m : List ℕ) → same n m ≡ false → same m n ≡ false
same_flip n m e = go (names n m)
  where
    go : Names n m → same m n ≡ false
    go (equal p x y) = let z : ◌≡◌ {A = ℕ} 0 1 = cc (e, x) in absurd (omega arith)
    go (apart x y) = y

distinct_rising : (l : List (List ℕ)) → Rising (λ n. index_of n l) (distinct l)
unfolding distinct index_of index_if
distinct_rising [] = tt
distinct_rising (m ∷ l) = (
  first,
  rising_later (λ n. index_of n l) (λ n. index_of n (m ∷ l)) (select (apart_from m) (distinct l)) later
      (rising_select (λ n. index_of n l) (apart_from m) (distinct l) (distinct_rising l)),
)
  where
    later : (n : List ℕ) → Member n (select (apart_from m) (distinct l)) → index_if (same n m) (index_of n l) ≡ suc (index_of n l)
    later n i = rw (same_flip m n (not-true (same m n) (member_all (λ k. apart_from m k ≡ true) n (select (apart_from m) (distinct l)) (select_passed (apart_from m) (distinct l)) i)))

    first : (n : List ℕ) → Member n (select (apart_from m) (distinct l)) → index_if (same m m) (index_of m l) < index_if (same n m) (index_of n l)
    first n i = rw (same_refl m, later n i) (omega arith)

-- ---- the table of the names of some records, and their indices in it

-- "Name tables hold distinct raw names in order of first appearance, and each record gets its index": said of any table and
-- any indices
pub record Tabled (names : List (List ℕ)) (t : NameTable) (indices : List ℕ) : Type 0 where
  -- the names lie one after another and fill the table
  pub right : table_right t ≡ true
  -- no name stands twice
  pub once : (i j : ℕ) → i < length (names_of t) → j < length (names_of t) → get_or (names_of t) i [] ≡ get_or (names_of t) j [] → i ≡ j
  -- a name of the table is some record's, and each record's is there
  pub holds : (n : List ℕ) → Member n (names_of t) ↔ Member n names
  -- of two names of the table, the one before appears first among the records
  pub in_order : (i j : ℕ) → i < j → j < length (names_of t)
      → index_of (get_or (names_of t) i []) names < index_of (get_or (names_of t) j []) names
  -- an index for each record, and it leads to the record's name
  pub one_each : length indices ≡ length names
  pub leads : (i : ℕ) → i < length names
      → (get_or indices i 0 < length (names_of t)) × (get_or (names_of t) (get_or indices i 0) [] ≡ get_or names i [])

module _ (l : List (List ℕ)) where
  pub table_names : names_of (name_table l) ≡ distinct l
  unfolding name_table
  table_names = names_of_table (distinct l)

  pub table_right_ends : table_right (name_table l) ≡ true
  unfolding name_table
  table_right_ends = table_ends_right (distinct l)

  pub table_count : length (name_table l).ends ≡ length (distinct l)
  unfolding name_table table_of_names
  table_count = ends_length 0 (distinct l)

  pub indices_length : length (name_indices l) ≡ length l
  unfolding name_indices
  indices_length = length-map l (λ n. index_of n (distinct l))

  module _ (i : ℕ) (h : i < length l) where
    index_is : get_or (name_indices l) i 0 ≡ index_of (get_or l i []) (distinct l)
    unfolding name_indices
    index_is = at_map (λ n. index_of n (distinct l)) l i [] 0 h

    pub index_in_table : get_or (name_indices l) i 0 < length (name_table l).ends
    index_in_table = rw (index_is, table_count) (index_below (get_or l i []) (distinct l) (member_distinct (get_or l i []) l (getD_member l i h)))

    pub index_leads : get_or (names_of (name_table l)) (get_or (name_indices l) i 0) [] ≡ get_or l i []
    index_leads = rw (index_is, table_names) (index_tells (get_or l i []) (distinct l) (member_distinct (get_or l i []) l (getD_member l i h)))

  pub tabled : Tabled l (name_table l) (name_indices l)
  tabled = record {
    right = table_right_ends;
    once = rw table_names (rising_once (λ n. index_of n l) (distinct l) (distinct_rising l));
    holds = λ n. (λ h. distinct_member n l (rw table_names at h), λ h. rw table_names (member_distinct n l h));
    in_order = rw table_names (rising_at (λ n. index_of n l) (distinct l) (distinct_rising l));
    one_each = indices_length;
    leads = λ i h. (rw (table_names, ← table_count) (index_in_table i h), index_leads i h);
  }

-- ---- and no others are so

module _ (f : List ℕ → ℕ) where
  rising_of : (l : List (List ℕ)) → ((i j : ℕ) → i < j → j < length l → f (get_or l i []) < f (get_or l j [])) → Rising f l
  rising_of [] h = tt
  rising_of (n ∷ l) h = (
    λ m i. rw (index_tells m l i) at (h 0 (suc (index_of m l)) (omega arith) (omega (arith, index_below m l i))),
    rising_of l (λ i j k g. h (suc i) (suc j) (omega arith) (omega arith)),
  )

  -- the same names, rising, stand in one order only
  rising_only : (l m : List (List ℕ)) → Rising f l → Rising f m
      → ((n : List ℕ) → Member n l → Member n m) → ((n : List ℕ) → Member n m → Member n l) → l ≡ m
  rising_only [] [] h k s t = refl
  rising_only [] (b ∷ m) h k s t = absurd (t b (inl refl))
  rising_only (a ∷ l) [] h k s t = absurd (s a (inl refl))
  rising_only (a ∷ l) (b ∷ m) h k s t =
      let e : a ≡ b =
      ⊎_elim (λ q. q) (λ i. ⊎_elim (λ q. sym q) (λ j. absurd (omega (arith, h.0 b j, k.0 a i))) (t b (inl refl))) (s a (inl refl)) in
      let later : l ≡ m =
      rising_only l m h.1 k.1
      (λ n i. ⊎_elim (λ q. absurd (omega (arith, h.0 n i, ap f (q ∙ sym e)))) (λ j. j) (s n (inr i)))
      (λ n i. ⊎_elim (λ q. absurd (omega (arith, k.0 n i, ap f (q ∙ e)))) (λ j. j) (t n (inr i))) in
      λ i. e i ∷ later i

-- ends that never fall and end with the bytes are those of the names, and the names are all the bytes
ends_only : (l : List ℕ) (at : ℕ) (s : List ℕ) → ends_right at l (length s) ≡ true
    → (ends_from at (names_from at l s) ≡ l) × (joined (names_from at l s) ≡ drop at s) × (at ≤ length s)
unfolding ends_right names_from ends_from joined write_all
ends_only [] at s e =
    let n : length s ≤ at = omega (arith, eqb-true at (length s) e) in
    (refl, sym (drop_of_length-le s n), omega (arith, eqb-true at (length s) e))
ends_only (e ∷ l) at s r =
    let h = (and-eq-true_iff _ _).0 r in
    let up : at ≤ e = leb-true at e h.0 in
    let k = ends_only l e s h.1 in
    let size : length (take (e - at) (drop at s)) ≡ e - at = length-take-le (e - at) (drop at s) (rw length-drop (omega (arith, k.2))) in
    let end : at + length (take (e - at) (drop at s)) ≡ e = omega arith in
    let next : drop (e - at) (drop at s) ≡ drop e s = drop-drop (e - at) at s ∙ ap (λ i. drop i s) (add_sub at e up) in (
      rw (end, k.0),
      rw (k.1, ← next) (take-append-drop (e - at) (drop at s)),
      omega (arith, k.2),
    )
  where
    add_sub : (a b : ℕ) → a ≤ b → a + (b - a) ≡ b
    add_sub a b h = omega arith

table_only : (t : NameTable) → table_right t ≡ true → t ≡ table_of_names (names_of t)
unfolding table_right names_of table_of_names
table_only t e = let h = ends_only t.ends 0 t.bytes e in λ i. record { bytes = sym h.1 i; ends = sym h.0 i }

-- a table and indices that are so are the table and the indices: `distinct` says nothing more
pub tabled_only : (l : List (List ℕ)) (t : NameTable) (indices : List ℕ) → Tabled l t indices
    → (t ≡ name_table l) × (indices ≡ name_indices l)
tabled_only l t indices h =
    let k = tabled l in
    let f : List ℕ → ℕ = λ n. index_of n l in
    let e : names_of t ≡ names_of (name_table l) =
    rising_only f (names_of t) (names_of (name_table l)) (rising_of f (names_of t) h.in_order)
    (rising_of f (names_of (name_table l)) k.in_order)
    (λ n i. (k.holds n).1 ((h.holds n).0 i)) (λ n i. (h.holds n).1 ((k.holds n).0 i)) in
    let same_index : (i : ℕ) → i < length indices → get_or indices i 0 ≡ get_or (name_indices l) i 0 =
    λ i g.
    let b : i < length l = omega (arith, h.one_each) in
    let x = h.leads i b in
    let y = k.leads i b in
    k.once (get_or indices i 0) (get_or (name_indices l) i 0) (rw e at x.0) y.0 (rw e at x.1 ∙ sym y.1) in (
      table_only t h.right ∙ ap table_of_names e ∙ sym (table_only (name_table l) k.right),
      ext_get_or 0 indices (name_indices l) (h.one_each ∙ sym k.one_each) same_index,
    )
