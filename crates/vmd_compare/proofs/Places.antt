-- The first place at which bytes differ is the one that a search of them finds. Assumes nothing.
use Rattle.std.specs.Prelude.{ℕ, suc, zero, ◌+◌, ◌-◌, ◌≤◌, ◌<◌, ◌≡◌, refl, Bool, true, false, not, List, [], ◌∷◌, eqb, length, take, drop, replicate, Option, Some, None}
use Rattle.std.specs.List.{zip, position_or_len, position_from}
use Rattle.std.proofs.Common.{ap, sym, ◌∙◌, arith, length-drop}
use Rattle.std.proofs.Math.Seq.{take-length}
use Rattle.std.proofs.Math.Bool.{cond}
use borrow.Author.Tests.{lt-ltb, le-ltb, ltb-true, ltb-false}
use Rattle.std.proofs.lemmas.Iterator.Adapters.{position_from-zero}
use lib.Dec.{ltb}
use Rattle.vmd_form.specs.Compare.{Compared, agrees, differs, compare_if, compare, compare_at}

-- a byte that is not zero, and two that are not the same
abbrev pub is_other : ℕ → Bool
is_other b = not (eqb b 0)

abbrev pub are_unlike : ℕ × ℕ → Bool
are_unlike p = not (eqb p.0 p.1)

-- what a search says, where it finds nothing and the rest says so
abbrev pub told : Option ℕ → ℕ → Compared → Compared
told (Some i) at rest = differs (at + i)
told None at rest = rest

zeros_from : (at k n : ℕ) (t : List ℕ) → n ≤ length t → compare (at + k) t (replicate n 0) ≡ told (position_from is_other k (take n t)) at (agrees (at + k + n))
unfolding compare compare_if
zeros_from at k zero t h = ap agrees (omega arith)
zeros_from at k (suc n) [] h = absurd (omega arith)
zeros_from at k (suc n) (a ∷ t) h = go (eqb a 0) (zeros_from at (k + 1) n t (omega arith))
  where
    go : (x : Bool) → compare (at + (k + 1)) t (replicate n 0) ≡ told (position_from is_other (k + 1) (take n t)) at (agrees (at + (k + 1) + n))
        → compare_if x (at + k) (compare (suc (at + k)) t (replicate n 0)) ≡ told (cond (not x) (Some k) (position_from is_other (k + 1) (take n t))) at (agrees (at + k + suc n))
    go true e =
        let f : at + (k + 1) ≡ suc (at + k) = omega arith in
        let g : at + (k + 1) + n ≡ at + k + suc n = omega arith in
        ap (λ (p : ℕ). compare p t (replicate n 0)) (sym f) ∙ e ∙ ap (λ (p : ℕ). told (position_from is_other (k + 1) (take n t)) at (agrees p)) g
    go false e = refl

-- what they say where those that stand beside each other are the same
abbrev pub bytes_rest : ℕ → List ℕ → List ℕ → Compared
bytes_rest p s v = cond (ltb (length s) (length v)) (differs (p + length s)) (agrees (p + length v))

ltb_suc : (m n : ℕ) → ltb (suc m) (suc n) ≡ ltb m n
ltb_suc m n = go (ltb m n) refl
  where
    go : (b : Bool) → ltb m n ≡ b → ltb (suc m) (suc n) ≡ ltb m n
    go true e = lt-ltb (suc m) (suc n) (omega (arith, ltb-true m n e)) ∙ sym e
    go false e = le-ltb (suc m) (suc n) (omega (arith, ltb-false m n e)) ∙ sym e

bytes_from : (at k : ℕ) (s v : List ℕ) → compare (at + k) s v ≡ told (position_from are_unlike k (zip s v)) at (bytes_rest (at + k) s v)
unfolding compare compare_if
bytes_from at k [] [] = ap agrees (omega arith)
bytes_from at k [] (b ∷ v) = rw (lt-ltb 0 (suc (length v)) (omega arith)) (ap differs (omega arith))
bytes_from at k (a ∷ s) [] = rw (le-ltb (suc (length s)) 0 (omega arith)) (ap agrees (omega arith))
bytes_from at k (a ∷ s) (b ∷ v) = go (eqb a b) (bytes_from at (k + 1) s v)
  where
    go : (x : Bool) → compare (at + (k + 1)) s v ≡ told (position_from are_unlike (k + 1) (zip s v)) at (bytes_rest (at + (k + 1)) s v)
        → compare_if x (at + k) (compare (suc (at + k)) s v) ≡ told (cond (not x) (Some k) (position_from are_unlike (k + 1) (zip s v))) at (bytes_rest (at + k) (a ∷ s) (b ∷ v))
    go true e =
        let f : at + (k + 1) ≡ suc (at + k) = omega arith in
        let g : at + (k + 1) + length s ≡ at + k + suc (length s) = omega arith in
        let h : at + (k + 1) + length v ≡ at + k + suc (length v) = omega arith in
        ap (λ (p : ℕ). compare p s v) (sym f) ∙ e
        ∙ rw (g, h, ltb_suc (length s) (length v)) refl
    go false e = refl

plain : (n : ℕ) → n ≡ n + 0
plain n = omega arith

rest_of : (s : List ℕ) (at : ℕ) → take (length s - at) (drop at s) ≡ drop at s
rest_of s at = ap (λ (n : ℕ). take n (drop at s)) (sym (length-drop at s)) ∙ take-length (drop at s)

-- the file has ended before the bytes have, or it has not
module _ (s : List ℕ) (at : ℕ) (v : List ℕ) (k : at ≤ length s) where
  pub bytes_short : length (take (length s - at) (drop at s)) < length v → differs (length s) ≡ bytes_rest at (drop at s) v
  bytes_short h =
      let f : length (drop at s) < length v = rw (rest_of s at) at h in
      rw (lt-ltb (length (drop at s)) (length v) f) (ap differs (omega (arith, length-drop at s)))

  pub bytes_whole : length v ≤ length (take (length s - at) (drop at s)) → agrees (at + length v) ≡ bytes_rest at (drop at s) v
  bytes_whole h =
      let f : length v ≤ length (drop at s) = rw (rest_of s at) at h in
      rw (le-ltb (length (drop at s)) (length v) f)

module _ (s : List ℕ) (at : ℕ) (r : Option ℕ) where
  -- zeros that are to stand at a place
  pub zeros_told : (n : ℕ) → at + n ≤ length s
      → r ≡ cond (ltb (position_or_len is_other (take n (drop at s))) (length (take n (drop at s)))) (Some (position_or_len is_other (take n (drop at s)))) None
      → told r at (agrees (at + n)) ≡ compare_at s at (replicate n 0)
  zeros_told n h e =
      rw (e ∙ position_from-zero is_other (take n (drop at s)))
      (sym (ap (λ (p : ℕ). compare p (drop at s) (replicate n 0)) (plain at) ∙ zeros_from at 0 n (drop at s) (rw length-drop (omega arith)) ∙ ap (λ (p : ℕ). told (position_from is_other 0 (take n (drop at s))) at (agrees (p + n))) (sym (plain at))))

  -- other bytes, beside what the file has from the place on
  pub bytes_told : (v : List ℕ) → at ≤ length s
      → r ≡ cond (ltb (position_or_len are_unlike (zip (take (length s - at) (drop at s)) v)) (length (zip (take (length s - at) (drop at s)) v))) (Some (position_or_len are_unlike (zip (take (length s - at) (drop at s)) v))) None
      → told r at (bytes_rest at (drop at s) v) ≡ compare_at s at v
  bytes_told v h e =
      rw (rw (rest_of s at) at e ∙ position_from-zero are_unlike (zip (drop at s) v))
      (sym (ap (λ (p : ℕ). compare p (drop at s) v) (plain at) ∙ bytes_from at 0 (drop at s) v ∙ ap (λ (p : ℕ). told (position_from are_unlike 0 (zip (drop at s) v)) at (bytes_rest p (drop at s) v)) (sym (plain at))))
