-- Laws of parts: what they name, and what a fetch finds there. Assumes nothing.
use Prim.Native.Nat.{ℕ, zero, suc, ◌+◌, ◌-◌, ◌≤◌}
use mathlib.Core.Path.{◌≡◌, refl, ap, ◌∙◌}
use mathlib.Core.List.{List, [], ◌∷◌}
use native.Mathlib.Omega.{arith}
use lib.ListN.{length, take, drop, length-take, length-drop}
use Rattle.vmd_format.specs.Bytes.{before_zero}
use Rattle.vmd_format.specs.Answer.{Answer, declined, given, map_answer}
use Rattle.vmd_format.specs.Fetch.{or_empty}
use Rattle.vmd_base.specs.declared.VmdPart.{VmdPart}
use Rattle.vmd_places.specs.Parts.{file_part, part_in, Cuts, name_in, there}

-- a part of a slice, by its length
pub range_is : (s : List ℕ) (at n : ℕ) → take (at + n - at) (drop at s) ≡ take n (drop at s)
range_is s at n = let z : at + n - at ≡ n = omega arith in rw z

-- bytes that are there have their length
pub bytes_length : (s : List ℕ) (at n : ℕ) → at + n ≤ length s → length (take n (drop at s)) ≡ n
bytes_length s at n h = simp (length-take, length-drop) (omega arith)

pub part_none : (at n : ℕ) → n ≡ 0 → record { at = 0; len = 0 } ≡ file_part at n
unfolding file_part
part_none at n e = rw e refl

pub part_some : (at n : ℕ) → (n ≡ 0 → ⊥) → record { at = at; len = n } ≡ file_part at n
unfolding file_part
part_some at zero h = absurd (h refl)
part_some at (suc n) h = refl

-- ---- a part names its bytes

-- what is taken of bytes is their front
pub record Front (h : List ℕ → List ℕ) : Type 0 where
  pub front : (t : List ℕ) → take (length (h t)) t ≡ h t

name_front : (n : ℕ) (t : List ℕ) → take (length (before_zero (take n t))) t ≡ before_zero (take n t)
unfolding before_zero
name_front zero t = refl
name_front (suc n) [] = refl
name_front (suc n) (zero ∷ t) = refl
name_front (suc n) (suc b ∷ t) = ap (λ l. suc b ∷ l) (name_front n t)

bytes_front : (n : ℕ) (t : List ℕ) → take (length (take n t)) t ≡ take n t
bytes_front zero t = refl
bytes_front (suc n) [] = refl
bytes_front (suc n) (b ∷ t) = ap (λ l. b ∷ l) (bytes_front n t)

pub front_name : (width : ℕ) → Front (name_in width)
unfolding name_in
front_name width = record { front = name_front width }

pub front_bytes : (n : ℕ) → Front (take n)
front_bytes n = record { front = bytes_front n }

pub no_bytes : (s : List ℕ) → Cuts s (record { at = 0; len = 0 }) []
no_bytes s = record { inside = omega arith; named = refl }

module _ {h : List ℕ → List ℕ} (f : Front h) (s : List ℕ) where
  pub front_cuts : (at : ℕ) → Cuts s (file_part at (length (h (drop at s)))) (h (drop at s))
  unfolding file_part
  front_cuts at = go (h (drop at s)) (f.front (drop at s))
    where
      go : (l : List ℕ) → take (length l) (drop at s) ≡ l → Cuts s (file_part at (length l)) l
      go [] e = no_bytes s
      go (b ∷ l) e = record { inside = omega (arith, simp (length-take, length-drop) at (ap length e)); named = e }

  pub there_cuts : (offset : ℕ) (x : Answer ℕ) → Cuts s (part_in x offset (there h offset x s)) (there h offset x s)
  unfolding part_in there or_empty map_answer
  there_cuts offset (declined k) = no_bytes s
  there_cuts offset (given at) = front_cuts (at + offset)

-- ---- a slice that is cut from a part

module _ {s l : List ℕ} {p q : VmdPart} (e : p ≡ q) (c : Cuts s q l) where
  pub cut_inside : p.at + p.len ≤ length s
  cut_inside = rw e c.inside

  pub cut_named : (r : List ℕ) → r ≡ take p.len (drop p.at s) → r ≡ l
  cut_named r h = h ∙ rw e c.named
