-- Laws of comparing a file with what is to stand in it: piece after piece it is the comparison of the whole, and it finds the
-- first change. Assumes nothing.
use Rattle.std.specs.Prelude.{ℕ, suc, ◌+◌, ◌≤◌, ◌≡◌, refl, Bool, true, false, List, [], ◌∷◌, ◌++◌, eqb, length, get_or, take, drop}
use Rattle.std.proofs.Common.{ap, sym, ◌∙◌, arith, le-leb, eq-eqb, eqb-true, drop-drop}
use Rattle.std.proofs.lemmas.Bool.{lt-leb}
use Rattle.vmd_form.specs.Canonical.{change_if, change_from}
use Rattle.vmd_form.specs.Compare.{Compared, agrees, differs, compare_if, compare, compare_at, and_next, change_over, change_at}

-- ---- pieces

-- where bytes stand, the place after them is that far on, and they are the file's
pub record Stands (at : ℕ) (s v : List ℕ) (q : ℕ) : Type 0 where
  pub next : q ≡ at + length v
  pub bytes : take (length v) s ≡ v
  pub fits : length v ≤ length s

pub compared_stands : (at : ℕ) (s v : List ℕ) (q : ℕ) → compare at s v ≡ agrees q → Stands at s v q
unfolding compare compare_if
compared_stands at s [] q e = let f : at ≡ q = cc in record { next = omega arith; bytes = refl; fits = omega arith }
compared_stands at [] (b ∷ v) q e = let z : ◌≡◌ {A = ℕ} 0 1 = cc in absurd (omega arith)
compared_stands at (a ∷ s) (b ∷ v) q e = go (eqb a b) refl e (compared_stands (suc at) s v q)
  where
    go : (x : Bool) → eqb a b ≡ x → compare_if x at (compare (suc at) s v) ≡ agrees q → (compare (suc at) s v ≡ agrees q → Stands (suc at) s v q)
        → Stands at (a ∷ s) (b ∷ v) q
    go true f e r =
        let h = r e in
        let g : a ≡ b = eqb-true a b f in
        record { next = omega (arith, h.next); bytes = rw g (ap (λ (t : List ℕ). b ∷ t) h.bytes); fits = omega (arith, h.fits) }
    go false f e r = let z : ◌≡◌ {A = ℕ} 0 1 = cc in absurd (omega arith)

pub stands_compared : (at : ℕ) (s v : List ℕ) → take (length v) s ≡ v → compare at s v ≡ agrees (at + length v)
unfolding compare compare_if
stands_compared at s [] e = ap agrees (omega arith)
stands_compared at [] (b ∷ v) e = let z : ◌≡◌ {A = ℕ} 0 1 = cc in absurd (omega arith)
stands_compared at (a ∷ s) (b ∷ v) e =
    let f : a ≡ b = ap (λ (t : List ℕ). get_or t 0 0) e in
    let g : take (length v) s ≡ v = ap (λ (t : List ℕ). drop 1 t) e in
    let n : suc at + length v ≡ at + suc (length v) = omega arith in
    rw (eq-eqb a b f) (stands_compared (suc at) s v g ∙ ap agrees n)

-- what is compared after another piece
pub compare_append : (at : ℕ) (s v w : List ℕ) → compare at s (v ++ w) ≡ and_next (compare at s v) (λ q. compare q (drop (length v) s) w)
unfolding compare compare_if and_next
compare_append at s [] w = refl
compare_append at [] (b ∷ v) w = refl
compare_append at (a ∷ s) (b ∷ v) w = go (eqb a b) (compare_append (suc at) s v w)
  where
    go : (x : Bool) → compare (suc at) s (v ++ w) ≡ and_next (compare (suc at) s v) (λ q. compare q (drop (length v) s) w)
        → compare_if x at (compare (suc at) s (v ++ w)) ≡ and_next (compare_if x at (compare (suc at) s v)) (λ q. compare q (drop (length v) s) w)
    go true e = e
    go false e = refl

-- the same at a place of the whole file
pub compare_next : (s : List ℕ) (at : ℕ) (v w : List ℕ) → compare_at s at (v ++ w) ≡ and_next (compare_at s at v) (λ q. compare_at s q w)
unfolding and_next
compare_next s at v w = compare_append at (drop at s) v w ∙ go (compare_at s at v) refl
  where
    go : (x : Compared) → compare_at s at v ≡ x → and_next x (λ q. compare q (drop (length v) (drop at s)) w) ≡ and_next x (λ q. compare_at s q w)
    go (agrees q) e =
        let h = compared_stands at (drop at s) v q e in
        let f : drop (length v) (drop at s) ≡ drop q s = drop-drop (length v) at s ∙ ap (λ (n : ℕ). drop n s) (sym h.next) in
        rw f
    go (differs q) e = refl

-- pieces that are told one after another
pub next_agrees : (s : List ℕ) (at : ℕ) (v w : List ℕ) (q : ℕ) → compare_at s at v ≡ agrees q → compare_at s at (v ++ w) ≡ compare_at s q w
unfolding and_next
next_agrees s at v w q e = compare_next s at v w ∙ rw e

pub next_differs : (s : List ℕ) (at : ℕ) (v w : List ℕ) (q : ℕ) → compare_at s at v ≡ differs q → compare_at s at (v ++ w) ≡ differs q
unfolding and_next
next_differs s at v w q e = compare_next s at v w ∙ rw e

-- ---- the first change

pub change_compared : (at : ℕ) (s v : List ℕ) (k : ℕ) → k ≡ at + length s → change_from at s v ≡ change_at k (compare at s v)
unfolding change_from change_if compare compare_if change_at change_over
change_compared at [] [] k h = rw (le-leb k at (omega arith))
change_compared at (a ∷ s) [] k h = rw (lt-leb k at (omega arith))
change_compared at [] (b ∷ v) k h = refl
change_compared at (a ∷ s) (b ∷ v) k h = go (eqb a b) (change_compared (suc at) s v k (omega arith))
  where
    go : (x : Bool) → change_from (suc at) s v ≡ change_at k (compare (suc at) s v)
        → change_if x at (change_from (suc at) s v) ≡ change_at k (compare_if x at (compare (suc at) s v))
    go true e = e
    go false e = refl
