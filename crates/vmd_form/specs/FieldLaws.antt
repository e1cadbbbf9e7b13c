-- Laws of comparing single bytes, names and flags. Assumes nothing.
use Prim.Native.Nat.{ℕ, zero, suc, ◌+◌, ◌-◌, ◌≤◌, ◌<◌}
use Rattle.std.specs.Prelude.{◌≡◌, Bool, true, false, not, eqb, take, drop, replicate}
use Rattle.std.proofs.Math.Path.{refl, sym}
use Rattle.std.proofs.Common.{ap, ◌∙◌, arith, add-one, length-drop, drop-cons, length-take-le, get_or-take, get_or-drop}
use mathlib.Core.List.{List, [], ◌∷◌}
use borrow.Author.Tests.{eq-eqb, ne_eqb}
use Rattle.std.proofs.Math.ListN.{length, get_or}
use Rattle.std.proofs.Math.Seq.{drop-length}
use Rattle.vmd_format.specs.Bytes.{before_zero, padded, is_set, flag_byte, is_zero, inverted_byte}
use Rattle.vmd_laws.specs.BytesLaws.{padded_length}
use Rattle.vmd_form.specs.Compare.{agrees, differs, compare_if, compare, compare_at}
use Rattle.vmd_form.specs.CompareLaws.{compared_stands, stands_compared}
use Rattle.vmd_form.specs.Form.{ZerosAfter, ZeroOrOne}
use Rattle.vmd_form.specs.Rows.{name_field, flag_field}

-- ---- a byte

module _ (s : List ℕ) (at : ℕ) where
  pub none_agrees : (v : List ℕ) → v ≡ [] → compare_at s at v ≡ agrees at
  unfolding compare
  none_agrees v e = rw e

  pub cons_agrees : (b : ℕ) (v : List ℕ) → at < length s → get_or s at 0 ≡ b → compare_at s at (b ∷ v) ≡ compare_at s (at + 1) v
  unfolding compare compare_if
  cons_agrees b v h e = rw (drop-cons s at 0 h, eq-eqb (get_or s at 0) b e, add-one)

  pub cons_differs : (b : ℕ) (v : List ℕ) → at < length s → (get_or s at 0 ≡ b → ⊥) → compare_at s at (b ∷ v) ≡ differs at
  unfolding compare compare_if
  cons_differs b v h e = rw (drop-cons s at 0 h, ne_eqb (get_or s at 0) b e)

  pub cons_ended : (b : ℕ) (v : List ℕ) → length s ≤ at → compare_at s at (b ∷ v) ≡ differs at
  unfolding compare
  cons_ended b v h = go (drop at s) (length-drop at s)
    where
      go : (t : List ℕ) → length t ≡ length s - at → compare at t (b ∷ v) ≡ differs at
      go [] e = refl
      go (a ∷ t) e = absurd (omega arith)

  -- bytes that are the file's own
  pub stays : (n : ℕ) → at + n ≤ length s → compare_at s at (take n (drop at s)) ≡ agrees (at + n)
  stays n h =
      let e : length (take n (drop at s)) ≡ n = length-take-le n (drop at s) (rw length-drop (omega arith)) in
      stands_compared at (drop at s) (take n (drop at s)) (rw e refl) ∙ ap (λ (k : ℕ). agrees (at + k)) e

-- what is left of bytes, from number i on, where a place of the file was reached
module _ (s v : List ℕ) (p i : ℕ) where
  pub bytes_agree : p < length s → i < length v → get_or s p 0 ≡ get_or v i 0 → compare_at s p (drop i v) ≡ compare_at s (p + 1) (drop (i + 1) v)
  bytes_agree h k e = rw (drop-cons v i 0 k, add-one i) (cons_agrees s p (get_or v i 0) (drop (suc i) v) h e)

  pub bytes_differ : p < length s → i < length v → (get_or s p 0 ≡ get_or v i 0 → ⊥) → compare_at s p (drop i v) ≡ differs p
  bytes_differ h k e = rw (drop-cons v i 0 k) (cons_differs s p (get_or v i 0) (drop (suc i) v) h e)

  pub bytes_ended : length s ≤ p → i < length v → compare_at s p (drop i v) ≡ differs p
  bytes_ended h k = rw (drop-cons v i 0 k) (cons_ended s p (get_or v i 0) (drop (suc i) v) h)

  pub bytes_done : i ≡ length v → compare_at s p (drop i v) ≡ agrees p
  bytes_done e = rw (e, drop-length v) (none_agrees s p [] refl)

-- the same of zeros
module _ (s : List ℕ) (p left : ℕ) where
  pub zeros_agree : p < length s → 0 < left → get_or s p 0 ≡ 0 → compare_at s p (replicate left 0) ≡ compare_at s (p + 1) (replicate (left - 1) 0)
  zeros_agree h k e = let d : left ≡ suc (left - 1) = omega arith in ap (λ (n : ℕ). compare_at s p (replicate n 0)) d ∙ cons_agrees s p 0 (replicate (left - 1) 0) h e

  pub zeros_differ : p < length s → 0 < left → (get_or s p 0 ≡ 0 → ⊥) → compare_at s p (replicate left 0) ≡ differs p
  zeros_differ h k e = let d : left ≡ suc (left - 1) = omega arith in ap (λ (n : ℕ). compare_at s p (replicate n 0)) d ∙ cons_differs s p 0 (replicate (left - 1) 0) h e

  pub zeros_done : left ≡ 0 → compare_at s p (replicate left 0) ≡ agrees p
  zeros_done e = rw e (none_agrees s p [] refl)

-- ---- flags

-- the perspective byte is written as the other flags are
pub flags_alike : (b : ℕ) → inverted_byte (is_zero b) ≡ flag_byte (is_set b)
unfolding inverted_byte is_zero flag_byte is_set
flags_alike b = go (eqb b 0)
  where
    go : (x : Bool) → inverted_byte x ≡ flag_byte (not x)
    go true = refl
    go false = refl

module _ (s : List ℕ) (at : ℕ) (h : at + 1 ≤ length s) where
  plain_byte : (b : ℕ) → b ≤ 1 → b ≡ flag_byte (is_set b)
  unfolding flag_byte is_set
  plain_byte zero k = refl
  plain_byte (suc zero) k = refl
  plain_byte (suc (suc b)) k = absurd (omega arith)

  other_byte : (b : ℕ) → 1 < b → b ≡ flag_byte (is_set b) → ⊥
  unfolding flag_byte is_set
  other_byte b k e = let f : flag_byte (is_set b) ≡ 1 = rw (ne_eqb b 0 (λ (z : b ≡ 0). omega arith)) in omega (arith, e, f)

  pub flag_agrees : ZeroOrOne s at → compare_at s at (flag_field s at) ≡ agrees (at + 1)
  flag_agrees k = cons_agrees s at _ [] (omega arith) (plain_byte (get_or s at 0) k) ∙ none_agrees s (at + 1) [] refl

  pub flag_differs : 1 < get_or s at 0 → compare_at s at (flag_field s at) ≡ differs at
  flag_differs k = cons_differs s at _ [] (omega arith) (other_byte (get_or s at 0) k)

-- ---- names

-- zeros after a zero, of a whole list
All_after : List ℕ → Type 0
All_after l = (i j : ℕ) → i ≤ j → j < length l → get_or l i 0 ≡ 0 → get_or l j 0 ≡ 0

padded_none : (l : List ℕ) → ((j : ℕ) → j < length l → get_or l j 0 ≡ 0) → padded (length l) [] ≡ l
unfolding padded
padded_none [] h = refl
padded_none (a ∷ l) h = rw (h 0 (omega arith)) (ap (λ (t : List ℕ). 0 ∷ t) (padded_none l (λ (j : ℕ) (k : j < length l). h (suc j) (omega arith))))

pub padded_zero : (n j : ℕ) → get_or (padded n []) j 0 ≡ 0
unfolding padded
padded_zero zero j = refl
padded_zero (suc n) zero = refl
padded_zero (suc n) (suc j) = padded_zero n j

after_padded : (l : List ℕ) → All_after l → padded (length l) (before_zero l) ≡ l
unfolding padded before_zero All_after
after_padded [] h = refl
after_padded (zero ∷ l) h = ap (λ (t : List ℕ). 0 ∷ t) (padded_none l (λ (j : ℕ) (k : j < length l). h 0 (suc j) (omega arith) (omega arith) refl))
after_padded (suc b ∷ l) h = ap (λ (t : List ℕ). suc b ∷ t) (after_padded l (λ (i j : ℕ) (p : i ≤ j) (q : j < length l) (e : get_or l i 0 ≡ 0). h (suc i) (suc j) (omega arith) (omega arith) e))

padded_after : (l : List ℕ) → padded (length l) (before_zero l) ≡ l → All_after l
unfolding padded before_zero All_after
padded_after [] e i j p q f = absurd (omega arith)
padded_after (zero ∷ l) e i zero p q f = refl
padded_after (zero ∷ l) e i (suc j) p q f = let g : padded (length l) [] ≡ l = ap (λ (t : List ℕ). drop 1 t) e in sym (ap (λ (t : List ℕ). get_or t j 0) g) ∙ padded_zero (length l) j
padded_after (suc b ∷ l) e zero j p q f = absurd (omega (arith, f))
padded_after (suc b ∷ l) e (suc i) zero p q f = absurd (omega arith)
padded_after (suc b ∷ l) e (suc i) (suc j) p q f = padded_after l (ap (λ (t : List ℕ). drop 1 t) e) i j (omega arith) (omega arith) f

module _ (s : List ℕ) (at w : ℕ) (h : at + w ≤ length s) where
  abbrev field : List ℕ
  field = take w (drop at s)

  field_length : length field ≡ w
  field_length = length-take-le w (drop at s) (rw length-drop (omega arith))

  field_byte : (i : ℕ) → i < w → get_or field i 0 ≡ get_or s (at + i) 0
  field_byte i k = get_or-take w (drop at s) i 0 k ∙ get_or-drop at s i 0

  -- zeros after a name, and a field that is padded
  pub zeros_padded : ZerosAfter s at w → name_field s w at ≡ field
  unfolding All_after
  zeros_padded z = rw field_length at (after_padded field (λ (i j : ℕ) (p : i ≤ j) (q : j < length field) (e : get_or field i 0 ≡ 0).
      let k : j < w = omega (arith, field_length, q) in
      field_byte j k ∙ z i j p k (sym (field_byte i (omega arith)) ∙ e)))

  pub padded_zeros : name_field s w at ≡ field → ZerosAfter s at w
  unfolding All_after
  padded_zeros e i j p k f =
      let a = padded_after field (rw field_length e) in
      sym (field_byte j k) ∙ a i j p (omega (arith, field_length)) (field_byte i (omega arith) ∙ f)

  pub name_agrees : ZerosAfter s at w → compare_at s at (name_field s w at) ≡ agrees (at + w)
  name_agrees z = rw (zeros_padded z) (stays s at w h)

  pub agrees_zeros : (q : ℕ) → compare_at s at (name_field s w at) ≡ agrees q → ZerosAfter s at w
  agrees_zeros q e =
      let d = compared_stands at (drop at s) (name_field s w at) q e in
      padded_zeros (sym (rw (padded_length w (before_zero field)) at d.bytes))
