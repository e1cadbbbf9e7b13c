-- Laws of name tables as names are added at the end: the distinct names, the index of each, the bytes and the ends.
use Rattle.std.specs.Prelude.{ℕ, zero, suc, ◌+◌, ◌-◌, ◌*◌, ◌≤◌, ◌<◌, ◌≡◌, false, ◌⊎◌, length, get_or}
use Rattle.std.proofs.Math.Path.{refl, ap}
use Rattle.std.proofs.Common.{sym, ◌∙◌, inl, inr, add-zero, suc-add, arith, length-append}
use mathlib.Core.List.{List, [], ◌∷◌, ◌++◌, map, append-nil, map-append}
use Rattle.std.proofs.Math.Nat.{zero-add}
use Rattle.std.proofs.Math.ListN.{length-map}
use Rattle.vmd_format.specs.Read.{write_all}
use Rattle.vmd_laws.specs.ReadLaws.{All, write_all_append}
use Rattle.vmd_format.specs.Take.{same}
use Rattle.vmd_format.specs.Parts.{upto}
use Rattle.vmd_laws.specs.PartsLaws.{upto_length, upto_below, all_map}
use Rattle.vmd_keys.specs.Names.{name_in, names_in, keep_if, select, distinct}
use Rattle.vmd_count.specs.DistinctLaws.{same_refl, Names, equal, apart, names, all_select, Member, all_members, map_same, member_named, apart_from, all_distinct, Once, here, there, once_distinct, select_append, select_none}
use Rattle.vmd_tables.specs.Tables.{joined, ends_from, table_of_names, index_if, index_of, name_table, name_indices}

-- a name that is not among some
abbrev pub New : List ℕ → List (List ℕ) → Type 0
New a l = All (λ m. ¬ (m ≡ a)) l

-- ---- the distinct names of names and more names

-- what the second names add to the first
unfoldable pub added : List (List ℕ) → List (List ℕ) → List (List ℕ)
added [] m = distinct m
added (n ∷ l) m = select (apart_from n) (added l m)

pub distinct_append : (l m : List (List ℕ)) → distinct (l ++ m) ≡ distinct l ++ added l m
unfolding distinct added
distinct_append [] m = refl
distinct_append (n ∷ l) m = rw (distinct_append l m, select_append (apart_from n) (distinct l) (added l m))

all_added : (P : List ℕ → Type 0) (l m : List (List ℕ)) → All P m → All P (added l m)
unfolding added
all_added P [] m h = all_distinct P m h
all_added P (n ∷ l) m h = all_select P (apart_from n) (added l m) (all_added P l m h)

same_apart : (n a : List ℕ) → ¬ (n ≡ a) → same n a ≡ false
same_apart n a h = go (names n a)
  where
    go : Names n a → same n a ≡ false
    go (equal e x y) = absurd (h e)
    go (apart x y) = x

added_old : (l : List (List ℕ)) (a : List ℕ) → Member a l → added l (a ∷ []) ≡ []
unfolding added
added_old [] a h = absurd h
added_old (n ∷ l) a (inl e) =
    select_none (apart_from n) (added l (a ∷ [])) (all_added (λ m. apart_from n m ≡ false) l (a ∷ []) (rw (e, same_refl n) (refl, tt)))
added_old (n ∷ l) a (inr h) = rw (added_old l a h) (unfold select in refl)

added_new : (l : List (List ℕ)) (a : List ℕ) → New a l → added l (a ∷ []) ≡ a ∷ []
unfolding added distinct select keep_if
added_new [] a h = refl
added_new (n ∷ l) a h = rw (added_new l a h.1, same_apart n a h.0)

-- LAW: a name that is there already changes nothing, any other is the last of the distinct names
pub distinct_old : (l : List (List ℕ)) (a : List ℕ) → Member a l → distinct (l ++ (a ∷ [])) ≡ distinct l
distinct_old l a h = distinct_append l (a ∷ []) ∙ rw (added_old l a h) (append-nil (distinct l))

pub distinct_new : (l : List (List ℕ)) (a : List ℕ) → New a l → distinct (l ++ (a ∷ [])) ≡ distinct l ++ (a ∷ [])
distinct_new l a h = distinct_append l (a ∷ []) ∙ rw (added_new l a h)

-- ---- members

once_member : (a : List ℕ) (l : List (List ℕ)) → Once a l → Member a l
once_member a [] x = elim x [ ]
once_member a (d ∷ l) (here h) = inl refl
once_member a (d ∷ l) (there q w) = inr (once_member a l w)

-- LAW: each name is among the distinct ones
pub member_distinct : (a : List ℕ) (l : List (List ℕ)) → Member a l → Member a (distinct l)
member_distinct a l h = once_member a (distinct l) (once_distinct a l h)

-- ---- the index of a name

-- LAW: names added at the end do not change the index of one that is there, and the index of a new one is the number of those
-- before it
pub index_stays : (a : List ℕ) (l m : List (List ℕ)) → Member a l → index_of a (l ++ m) ≡ index_of a l
unfolding index_of index_if
index_stays a [] m h = absurd h
index_stays a (n ∷ l) m (inl e) = rw (e, same_refl n)
index_stays a (n ∷ l) m (inr h) = rw (index_stays a l m h)

pub index_last : (a : List ℕ) (l : List (List ℕ)) → New a l → index_of a (l ++ (a ∷ [])) ≡ length l
unfolding index_of index_if
index_last a [] h = rw (same_refl a)
index_last a (n ∷ l) h = rw (same_apart a n (λ e. h.0 (sym e)), index_last a l h.1)

-- LAW: the names of records by their indices are their names
pub index_tells : (a : List ℕ) (l : List (List ℕ)) → Member a l → get_or l (index_of a l) [] ≡ a
unfolding index_of index_if
index_tells a [] h = absurd h
index_tells a (n ∷ l) h = go (names a n) h (index_tells a l)
  where
    go : Names a n → (a ≡ n) ⊎ Member a l → (Member a l → get_or l (index_of a l) [] ≡ a)
        → get_or (n ∷ l) (index_if (same a n) (index_of a l)) [] ≡ a
    go (equal e x y) h k = rw x (sym e)
    go (apart x y) (inl e) k =
        let u = same_refl a in let v : same a a ≡ false = rw (← e) at x in let z : ◌≡◌ {A = ℕ} 0 1 = cc in absurd (omega arith)
    go (apart x y) (inr h) k = rw x (k h)

pub indices_old : (l : List (List ℕ)) (a : List ℕ) → Member a l
    → name_indices (l ++ (a ∷ [])) ≡ name_indices l ++ (index_of a (distinct l) ∷ [])
unfolding name_indices
indices_old l a h = rw (distinct_old l a h, map-append (λ n. index_of n (distinct l)) l (a ∷ []))

pub indices_new : (l : List (List ℕ)) (a : List ℕ) → New a l → name_indices (l ++ (a ∷ [])) ≡ name_indices l ++ (length (distinct l) ∷ [])
unfolding name_indices
indices_new l a h =
    rw (
      distinct_new l a h,
      map-append (λ n. index_of n (distinct l ++ (a ∷ []))) l (a ∷ []),
      index_last a (distinct l) (all_distinct (λ m. ¬ (m ≡ a)) l h),
      map_same (λ n. index_of n (distinct l ++ (a ∷ []))) (λ n. index_of n (distinct l)) l
          (all_members (λ n. index_of n (distinct l ++ (a ∷ [])) ≡ index_of n (distinct l)) l (λ n k. index_stays n (distinct l) (a ∷ []) (member_distinct n l k))),
    )

-- ---- the bytes and the ends

joined_append : (l m : List (List ℕ)) → joined (l ++ m) ≡ joined l ++ joined m
unfolding joined
joined_append = write_all_append (λ n. n)

pub joined_one : (a : List ℕ) → joined (a ∷ []) ≡ a
unfolding joined write_all
joined_one a = append-nil a

pub ends_length : (at : ℕ) (l : List (List ℕ)) → length (ends_from at l) ≡ length l
unfolding ends_from
ends_length at [] = refl
ends_length at (n ∷ l) = ap suc (ends_length (at + length n) l)

pub ends_one_more : (at : ℕ) (l : List (List ℕ)) (a : List ℕ)
    → ends_from at (l ++ (a ∷ [])) ≡ ends_from at l ++ ((at + length (joined l) + length a) ∷ [])
unfolding ends_from joined write_all
ends_one_more at [] a = rw (add-zero at)
ends_one_more at (n ∷ l) a =
    let q : at + length n + length (joined l) + length a ≡ at + length (n ++ joined l) + length a =
    omega (arith, length-append n (joined l)) in
    rw (ends_one_more (at + length n) l a, q)

-- LAW: a table with a new name
pub table_new : (l : List (List ℕ)) (a : List ℕ) → New a l
    → ((name_table (l ++ (a ∷ []))).bytes ≡ (name_table l).bytes ++ a) × ((name_table (l ++ (a ∷ []))).ends ≡ (name_table l).ends ++ ((length (name_table l).bytes + length a) ∷ []))
unfolding name_table table_of_names
table_new l a h = (
  rw (distinct_new l a h, joined_append, joined_one),
  rw (distinct_new l a h, ends_one_more 0 (distinct l) a, zero-add),
)

pub table_old : (l : List (List ℕ)) (a : List ℕ) → Member a l → name_table (l ++ (a ∷ [])) ≡ name_table l
unfolding name_table
table_old l a h = ap table_of_names (distinct_old l a h)

-- ---- the table of the first names is no longer than that of all

pub names_fewer : (l m : List (List ℕ)) → length (distinct l) ≤ length (distinct (l ++ m))
names_fewer l m = rw (distinct_append l m, length-append) (omega arith)

pub bytes_fewer : (l m : List (List ℕ)) → length (name_table l).bytes ≤ length (name_table (l ++ m)).bytes
unfolding name_table table_of_names
bytes_fewer l m = rw (distinct_append l m, joined_append, length-append) (omega arith)

-- ---- the names of the first records

upto_append : (j i k : ℕ) → upto j (i + k) ≡ upto j i ++ upto (j + i) k
unfolding upto
upto_append j zero k = rw (zero-add k, add-zero j)
upto_append j (suc i) k =
    let q : j + suc i ≡ suc j + i = omega arith in
    rw (suc-add i k, q, upto_append (suc j) i k)

pub at_map : {A B : Type 0} (f : A → B) (l : List A) (i : ℕ) (d : A) (e : B) → i < length l → get_or (map f l) i e ≡ f (get_or l i d)
at_map f [] i d e h = absurd (omega arith)
at_map f (a ∷ l) zero d e h = refl
at_map f (a ∷ l) (suc i) d e h = at_map f l i d e (omega arith)

at_upto : {B : Type 0} (f : ℕ → B) (d : B) (j n i : ℕ) → i < n → get_or (map f (upto j n)) i d ≡ f (j + i)
unfolding upto
at_upto f d j zero i h = absurd (omega arith)
at_upto f d j (suc n) zero h = ap f (sym (add-zero j))
at_upto f d j (suc n) (suc i) h = at_upto f d (suc j) n i (omega arith) ∙ ap f (omega arith)

module _ (s : List ℕ) (at size : ℕ) where
  pub names_append : (i k : ℕ) → names_in s at size (i + k) ≡ names_in s at size i ++ map (λ j. name_in s (at + size * j)) (upto i k)
  unfolding names_in
  names_append i k = rw (upto_append 0 i k, zero-add i) (map-append (λ j. name_in s (at + size * j)) (upto 0 i) (upto i k))

  pub names_one_more : (i : ℕ) → names_in s at size (i + 1) ≡ names_in s at size i ++ (name_in s (at + size * i) ∷ [])
  names_one_more i = names_append i 1 ∙ unfold upto in refl

  pub names_count : (n : ℕ) → length (names_in s at size n) ≡ n
  unfolding names_in
  names_count n = length-map (upto 0 n) (λ j. name_in s (at + size * j)) ∙ upto_length 0 n

  pub name_at : (n i : ℕ) → i < n → get_or (names_in s at size n) i [] ≡ name_in s (at + size * i)
  unfolding names_in
  name_at n i h = at_upto (λ j. name_in s (at + size * j)) [] 0 n i h ∙ rw (zero-add i)

  pub name_there : (n i : ℕ) → i < n → Member (name_in s (at + size * i)) (names_in s at size n)
  unfolding names_in
  name_there n i h = member_named (λ j. name_in s (at + size * j)) 0 n i (omega arith) (omega arith)

  pub name_new : (a : List ℕ) (n : ℕ) → ((i : ℕ) → i < n → ¬ (name_in s (at + size * i) ≡ a)) → New a (names_in s at size n)
  unfolding names_in
  name_new a n h =
      let b = upto_below n 0 n (omega arith) in
      all_map {P = λ i. i < n} {Q = λ i. i < n} (λ m. ¬ (m ≡ a)) (λ j. name_in s (at + size * j)) (λ i p q. h i p) (upto 0 n) b b

  -- the table of the first records is no longer than that of all
  pub names_upto : (i n : ℕ) → i ≤ n → length (distinct (names_in s at size i)) ≤ length (distinct (names_in s at size n))
  names_upto i n h =
      let q : i + (n - i) ≡ n = omega arith in
      rw q at (rw (← names_append i (n - i)) at (names_fewer (names_in s at size i) (map (λ j. name_in s (at + size * j)) (upto i (n - i)))))

  pub bytes_upto : (i n : ℕ) → i ≤ n → length (name_table (names_in s at size i)).bytes ≤ length (name_table (names_in s at size n)).bytes
  bytes_upto i n h =
      let q : i + (n - i) ≡ n = omega arith in
      rw q at (rw (← names_append i (n - i)) at (bytes_fewer (names_in s at size i) (map (λ j. name_in s (at + size * j)) (upto i (n - i)))))

  pub index_at : (n i : ℕ) → i < n
      → get_or (name_indices (names_in s at size n)) i 0 ≡ index_of (name_in s (at + size * i)) (distinct (names_in s at size n))
  unfolding name_indices
  index_at n i h =
      at_map (λ a. index_of a (distinct (names_in s at size n))) (names_in s at size n) i [] 0 (omega (arith, names_count n))
      ∙ ap (λ a. index_of a (distinct (names_in s at size n))) (name_at n i h)
