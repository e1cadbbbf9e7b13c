-- Laws of names told apart, and of the distinct ones of some names.
use Prim.Native.Nat.{ℕ, zero, suc, ◌+◌, ◌≤◌, ◌<◌}
use Rattle.std.specs.Prelude.{◌≡◌, ◌⊎◌, Bool, not, ◌&&◌, eqb}
use Rattle.std.proofs.Math.Path.{refl}
use Rattle.std.proofs.Common.{ap, sym, inl, inr, eq-eqb, eqb-true}
use Rattle.std.proofs.Math.Bool.{true, false}
use mathlib.Core.List.{List, [], ◌∷◌, ◌++◌, map}
use Rattle.std.proofs.Math.Decide.{ℕ_discrete}
use native.Mathlib.Omega.{arith}
use Rattle.std.proofs.Math.ListN.{length}
use Rattle.vmd_laws.specs.ReadLaws.{All}
use Rattle.vmd_format.specs.Take.{same}
use Rattle.vmd_format.specs.Parts.{upto}
use Rattle.vmd_keys.specs.Names.{keep_if, select, distinct}

-- names: equal or told apart
pub same_refl : (s : List ℕ) → same s s ≡ true
unfolding same
same_refl [] = refl
same_refl (a ∷ s) = rw (eq-eqb a a refl, same_refl s)

pub same_true : (s t : List ℕ) → same s t ≡ true → s ≡ t
unfolding same
same_true [] [] e = refl
same_true [] (b ∷ t) e = let z : ◌≡◌ {A = ℕ} 0 1 = cc in absurd (omega arith)
same_true (a ∷ s) [] e = let z : ◌≡◌ {A = ℕ} 0 1 = cc in absurd (omega arith)
same_true (a ∷ s) (b ∷ t) e = go (eqb a b) refl (same s t) (λ q. same_true s t q) e
  where
    go : (x : Bool) → eqb a b ≡ x → (y : Bool) → (y ≡ true → s ≡ t) → (x && y) ≡ true → ◌≡◌ {A = List ℕ} (a ∷ s) (b ∷ t)
    go true p true q e = let u = eqb-true a b p in let v = q refl in cc
    go true p false q e = let z : ◌≡◌ {A = ℕ} 0 1 = cc in absurd (omega arith)
    go false p y q e = let z : ◌≡◌ {A = ℕ} 0 1 = cc in absurd (omega arith)

pub data Names (s t : List ℕ) : Type 0 where
  equal : s ≡ t → same s t ≡ true → same t s ≡ true → Names s t
  apart : same s t ≡ false → same t s ≡ false → Names s t

-- the cases for two names
pub names : (s t : List ℕ) → Names s t
names s t = go (same s t) refl (same t s) refl
  where
    go : (x : Bool) → same s t ≡ x → (y : Bool) → same t s ≡ y → Names s t
    go true p y q = equal (same_true s t p) p (let e = same_true s t p in let r = same_refl s in cc)
    go false p true q = equal (sym (same_true t s q)) (let e = same_true t s q in let r = same_refl s in cc) q
    go false p false q = apart p q

-- those that pass a test
module _ {A : Type 0} where
  pub all_select : (P : A → Type 0) (f : A → Bool) (l : List A) → All P l → All P (select f l)
  unfolding select keep_if
  all_select P f [] h = tt
  all_select P f (a ∷ l) h = go (f a) (all_select P f l h.1)
    where
      go : (x : Bool) → All P (select f l) → All P (keep_if x a (select f l))
      go true k = (h.0, k)
      go false k = k

  pub select_append : (f : A → Bool) (l m : List A) → select f (l ++ m) ≡ select f l ++ select f m
  unfolding select keep_if
  select_append f [] m = refl
  select_append f (a ∷ l) m = rw (select_append f l m) (go (f a))
    where
      go : (x : Bool) → keep_if x a (select f l ++ select f m) ≡ keep_if x a (select f l) ++ select f m
      go true = refl
      go false = refl

  pub select_none : (f : A → Bool) (l : List A) → All (λ a. f a ≡ false) l → select f l ≡ []
  unfolding select keep_if
  select_none f [] h = refl
  select_none f (a ∷ l) h = rw (h.0, select_none f l h.1)

  pub select_passed : (f : A → Bool) (l : List A) → All (λ a. f a ≡ true) (select f l)
  unfolding select keep_if
  select_passed f [] = tt
  select_passed f (a ∷ l) = go (f a) refl (select_passed f l)
    where
      go : (x : Bool) → f a ≡ x → All (λ a. f a ≡ true) (select f l) → All (λ a. f a ≡ true) (keep_if x a (select f l))
      go true e k = (e, k)
      go false e k = k

  pub select_short : (f : A → Bool) (l : List A) → length (select f l) ≤ length l
  unfolding select keep_if
  select_short f [] = omega arith
  select_short f (a ∷ l) = go (f a) (select_short f l)
    where
      go : (x : Bool) → length (select f l) ≤ length l → length (keep_if x a (select f l)) ≤ suc (length l)
      go true h = omega arith
      go false h = omega arith

  pub all_then : (P Q : A → Type 0) → ((a : A) → P a → Q a) → (l : List A) → All P l → All Q l
  all_then P Q h [] k = tt
  all_then P Q h (a ∷ l) k = (h a k.0, all_then P Q h l k.1)

  abbrev pub Member : A → List A → Type 0
  Member a [] = ⊥
  Member a (b ∷ l) = (a ≡ b) ⊎ Member a l

  -- a fact of each, said of each that is there
  pub all_members : (P : A → Type 0) (l : List A) → ((a : A) → Member a l → P a) → All P l
  all_members P [] h = tt
  all_members P (a ∷ l) h = (h a (inl refl), all_members P l (λ b i. h b (inr i)))

  pub member_all : (P : A → Type 0) (a : A) (l : List A) → All P l → Member a l → P a
  member_all P a [] h i = absurd i
  member_all P a (b ∷ l) h (inl e) = rw e h.0
  member_all P a (b ∷ l) h (inr i) = member_all P a l h.1 i

pub map_same : {A B : Type 0} (g h : A → B) (l : List A) → All (λ a. g a ≡ h a) l → map g l ≡ map h l
map_same g h [] e = refl
map_same g h (a ∷ l) e = rw (e.0, map_same g h l e.1)

pub member_named : (nm : ℕ → List ℕ) (k n i : ℕ) → k ≤ i → i < k + n → Member (nm i) (map nm (upto k n))
unfolding upto
member_named nm k zero i a b = absurd (omega arith)
member_named nm k (suc n) i a b = go (ℕ_discrete i k) (λ h. member_named nm (suc k) n i h (omega arith))
  where
    go : Dec (i ≡ k) → (suc k ≤ i → Member (nm i) (map nm (upto (suc k) n))) → Member (nm i) (nm k ∷ map nm (upto (suc k) n))
    go (yes e) r = inl (ap nm e)
    go (no d) r = inr (r (omega arith))

-- the distinct names are among the names, and not more
abbrev pub apart_from : List ℕ → List ℕ → Bool
apart_from n m = not (same n m)

pub all_distinct : (P : List ℕ → Type 0) (l : List (List ℕ)) → All P l → All P (distinct l)
unfolding distinct
all_distinct P [] h = tt
all_distinct P (n ∷ l) h = (h.0, all_select P (apart_from n) (distinct l) (all_distinct P l h.1))

pub distinct_short : (l : List (List ℕ)) → length (distinct l) ≤ length l
unfolding distinct
distinct_short [] = omega arith
distinct_short (n ∷ l) = let x = distinct_short l in let y = select_short (apart_from n) (distinct l) in omega arith

-- a name stands in a list exactly once
pub data Once (m : List ℕ) : List (List ℕ) → Type 0 where
  here : {l : List (List ℕ)} → All (λ d. ¬ (d ≡ m)) l → Once m (m ∷ l)
  there : {d : List ℕ} {l : List (List ℕ)} → ¬ (d ≡ m) → Once m l → Once m (d ∷ l)

once_select : (m : List ℕ) (g : List ℕ → Bool) (l : List (List ℕ)) → g m ≡ true → Once m l → Once m (select g l)
unfolding select keep_if
once_select m g [] e x = elim x [ ]
once_select m g (d ∷ l) e (here h) = rw e (here (all_select _ g l h))
once_select m g (d ∷ l) e (there q w) = go (g d) (once_select m g l e w)
  where
    go : (x : Bool) → Once m (select g l) → Once m (keep_if x d (select g l))
    go true k = there q k
    go false k = k

-- LAW: each name is among the distinct ones exactly once
pub once_distinct : (m : List ℕ) (l : List (List ℕ)) → Member m l → Once m (distinct l)
unfolding distinct
once_distinct m [] h = absurd h
once_distinct m (a ∷ l) h = go (names a m) h (λ k. once_distinct m l k)
  where
    go : Names a m → (m ≡ a) ⊎ Member m l → (Member m l → Once m (distinct l)) → Once m (a ∷ select (apart_from a) (distinct l))
    go (equal p x y) h r =
        rw p (here (all_then (λ b. apart_from m b ≡ true) (λ b. ¬ (b ≡ m)) (λ b (k : apart_from m b ≡ true) q. differs b k q)
        (select (apart_from m) (distinct l)) (select_passed (apart_from m) (distinct l))))
      where
        differs : (b : List ℕ) → apart_from m b ≡ true → b ≡ m → ⊥
        differs b k q =
            let u = same_refl m in
            let v : not (same m m) ≡ true = rw q at k in
            let z : ◌≡◌ {A = ℕ} 0 1 = (let t = rw u at v in cc) in omega arith
    go (apart x y) (inl e) r =
        let u = same_refl a in let v : same a a ≡ false = rw e at x in let z : ◌≡◌ {A = ℕ} 0 1 = cc in absurd (omega arith)
    go (apart x y) (inr k) r =
        there {d = a} (λ q. let u = same_refl m in let v : same m m ≡ false = rw q at x in let z : ◌≡◌ {A = ℕ} 0 1 = cc in omega arith)
        (once_select m (apart_from a) (distinct l) (rw x) (r k))
