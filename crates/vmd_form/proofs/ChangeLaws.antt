-- Laws of the first change: a file is canonical exactly where there is none, and what the place says. Assumes nothing.
use Rattle.std.specs.Prelude.{ℕ, zero, suc, ◌+◌, ◌-◌, ◌≤◌, ◌<◌, ◌≡◌, refl, ◌↔◌, Bool, true, false, ◌&&◌, List, [], ◌∷◌, eqb, length, get_or}
use Rattle.std.proofs.Common.{ap, ◌∙◌, subst, arith, eq-eqb, eqb-true}
use Rattle.std.proofs.Math.Bool.{and-eq-true_iff}
use Rattle.std.proofs.lemmas.Bool.{eqb-false}
use Rattle.vmd_format.specs.Answer.{Answer, declined, given, map_answer}
use Rattle.vmd_format.specs.Read.{Manner}
use Rattle.vmd_format.specs.Take.{same}
use Rattle.vmd_format.specs.Join.{export_file}
use Rattle.vmd_form.specs.Canonical.{canonical, Change, nowhere, at_place, change_if, change_from, first_change}

unfoldable pub is_nowhere : Change → Bool
is_nowhere nowhere = true
is_nowhere (at_place n) = false

same_change : (n : ℕ) (s e : List ℕ) → same s e ≡ is_nowhere (change_from n s e)
unfolding same change_from change_if is_nowhere
same_change n [] [] = refl
same_change n [] (b ∷ e) = refl
same_change n (a ∷ s) [] = refl
same_change n (a ∷ s) (b ∷ e) = go (eqb a b) (same_change (suc n) s e)
  where
    go : (x : Bool) → same s e ≡ is_nowhere (change_from (suc n) s e) → (x && same s e) ≡ is_nowhere (change_if x n (change_from (suc n) s e))
    go true h = h
    go false h = refl

-- yes exactly where nothing would be touched
pub canonical_change : (m : Manner) (s : List ℕ) → canonical m s ≡ map_answer is_nowhere (first_change m s)
unfolding canonical first_change map_answer
canonical_change m s = go (export_file m s)
  where
    go : (x : Answer (List ℕ)) → map_answer (same s) x ≡ map_answer is_nowhere (map_answer (change_from 0 s) x)
    go (declined k) = refl
    go (given e) = ap given (same_change 0 s e)

-- the test of two lists
pub same_is : (s e : List ℕ) → (same s e ≡ true) ↔ (s ≡ e)
unfolding same
same_is [] [] = (λ h. refl, λ h. refl)
same_is [] (b ∷ e) = (λ h. let z : ◌≡◌ {A = ℕ} 0 1 = cc in absurd (omega arith), λ h. let z : ◌≡◌ {A = ℕ} 0 1 = cc in absurd (omega arith))
same_is (a ∷ s) [] = (λ h. let z : ◌≡◌ {A = ℕ} 0 1 = cc in absurd (omega arith), λ h. let z : ◌≡◌ {A = ℕ} 0 1 = cc in absurd (omega arith))
same_is (a ∷ s) (b ∷ e) = go (same_is s e)
  where
    go : ((same s e ≡ true) ↔ (s ≡ e)) → ((eqb a b && same s e) ≡ true) ↔ (a ∷ s ≡ b ∷ e)
    go r = (
      λ h. (let k = (and-eq-true_iff _ _).0 h in let p : a ≡ b = eqb-true a b k.0 in let q : s ≡ e = r.0 k.1 in cc),
      λ h. (let p : a ≡ b = cc in let q : s ≡ e = cc in (and-eq-true_iff _ _).1 (eq-eqb a b p, r.1 q)),
    )

-- What a place says: before it the two agree, and at it they differ, or just one of them has ended.
pub data Differ (s e : List ℕ) (n : ℕ) : Type 0 where
  byte_differs : n < length s → n < length e → (get_or s n 0 ≡ get_or e n 0 → ⊥) → Differ s e n
  file_ended : length s ≡ n → n < length e → Differ s e n
  export_ended : n < length s → length e ≡ n → Differ s e n

pub record FirstDifference (s e : List ℕ) (n : ℕ) : Type 0 where
  pub before : (i : ℕ) → i < n → (i < length s) × (i < length e) × (get_or s i 0 ≡ get_or e i 0)
  pub at : Differ s e n

change_above : (n : ℕ) (s e : List ℕ) (m : ℕ) → change_from n s e ≡ at_place m → n ≤ m
unfolding change_from change_if
change_above n [] [] m h = let z : ◌≡◌ {A = ℕ} 0 1 = cc in absurd (omega arith)
change_above n [] (b ∷ e) m h = let z : n ≡ m = cc in omega arith
change_above n (a ∷ s) [] m h = let z : n ≡ m = cc in omega arith
change_above n (a ∷ s) (b ∷ e) m h = go (eqb a b) h (change_above (suc n) s e m)
  where
    go : (x : Bool) → change_if x n (change_from (suc n) s e) ≡ at_place m → (change_from (suc n) s e ≡ at_place m → suc n ≤ m) → n ≤ m
    go true h r = let q = r h in omega arith
    go false h r = let z : n ≡ m = cc in omega arith

differ_next : (a b : ℕ) (s e : List ℕ) (k : ℕ) → Differ s e k → Differ (a ∷ s) (b ∷ e) (suc k)
differ_next a b s e k (byte_differs p q r) = byte_differs (omega arith) (omega arith) r
differ_next a b s e k (file_ended p q) = file_ended (ap suc p) (omega arith)
differ_next a b s e k (export_ended p q) = export_ended (omega arith) (ap suc q)

found_next : (a b : ℕ) (s e : List ℕ) (k : ℕ) → a ≡ b → FirstDifference s e k → FirstDifference (a ∷ s) (b ∷ e) (suc k)
found_next a b s e k h f = record { before = before; at = differ_next a b s e k f.at }
  where
    before : (i : ℕ) → i < suc k → (i < length (a ∷ s)) × (i < length (b ∷ e)) × (get_or (a ∷ s) i 0 ≡ get_or (b ∷ e) i 0)
    before zero l = (omega arith, omega arith, h)
    before (suc i) l = let g = f.before i (omega arith) in (omega (arith, g.0), omega (arith, g.1), g.2)

found_here : (s e : List ℕ) (k : ℕ) → 0 ≡ k → Differ s e 0 → FirstDifference s e k
found_here s e k h d = subst (FirstDifference s e) h (record { before = λ (i : ℕ) (l : i < 0). absurd (omega arith); at = d })

pub difference_found : (n : ℕ) (s e : List ℕ) (k : ℕ) → change_from n s e ≡ at_place (n + k) → FirstDifference s e k
unfolding change_from change_if
difference_found n [] [] k h = let z : ◌≡◌ {A = ℕ} 0 1 = cc in absurd (omega arith)
difference_found n [] (b ∷ e) k h = let z : n ≡ n + k = cc in found_here [] (b ∷ e) k (omega arith) (file_ended refl (omega arith))
difference_found n (a ∷ s) [] k h = let z : n ≡ n + k = cc in found_here (a ∷ s) [] k (omega arith) (export_ended (omega arith) refl)
difference_found n (a ∷ s) (b ∷ e) k h = go (eqb a b) refl h (λ (j : ℕ). difference_found (suc n) s e j)
  where
    go : (x : Bool) → eqb a b ≡ x → change_if x n (change_from (suc n) s e) ≡ at_place (n + k)
        → ((j : ℕ) → change_from (suc n) s e ≡ at_place (suc n + j) → FirstDifference s e j) → FirstDifference (a ∷ s) (b ∷ e) k
    go true f h r =
        let l = change_above (suc n) s e (n + k) h in
        let d : n + k ≡ suc n + (k - 1) = omega arith in
        let j : suc (k - 1) ≡ k = omega arith in
        subst (FirstDifference (a ∷ s) (b ∷ e)) j (found_next a b s e (k - 1) (eqb-true a b f) (r (k - 1) (h ∙ ap at_place d)))
    go false f h r =
        let z : n ≡ n + k = cc in
        found_here (a ∷ s) (b ∷ e) k (omega arith) (byte_differs (omega arith) (omega arith) (eqb-false a b f))
