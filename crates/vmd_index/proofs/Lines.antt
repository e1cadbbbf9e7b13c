-- The phases of a line against the definition of what it says: `rest` gives, by the definition's own words, what the end of a
-- line finds that is in a phase and goes on with some bytes; a byte more is a step of the phase. Assumes nothing.
use Rattle.std.proofs.Common.{◌≡◌, ℕ, ◌+◌, ◌-◌, ◌*◌, min, Bool, true, false, cond, ◌&&◌, eqb, leb, List, [], ◌∷◌, sym, refl, ap, ◌∙◌, arith, ne_eqb, eqb-true, leb-false, leb-true}
use mathlib.Core.Bool.{and_assoc, and-false}
use Rattle.vmd_format.specs.Characters.{between}
use Rattle.std.specs.Prelude.{None, Ok, Err}
use Rattle.vmd_index.specs.declared.Phase.{Phase}
use Rattle.vmd_index.specs.declared.Phase.TheVariants.{Blank, BlankReturn, Comment, Pointer, Tab, Zero, Prefix, CodePoint, Return, Past, NoEntry, Faulty}
use Rattle.vmd_index.specs.declared.Cause.{Cause}
use Rattle.vmd_index.specs.declared.Cause.TheVariants as cause
use Rattle.vmd_index.specs.Index.{before_first, split, without_return, blank, without_blanks, digit, hexadecimal, all, some, value_after, code_point, entry, no_entry, from_items, from_content, line_says, judged, LineEnd, line_end}
use Rattle.vmd_index.proofs.Laws.{digit_range}
use Rattle.vmd_index.specs.Steps.{with_digit, after_blanks, after_digits, after_code_point, next_phase, phase_end}

abbrev none : LineEnd
none = Err cause.NoEntry

-- ---- pointers that count as 11,280

judged_capped : (m p : ℕ) → judged m (min p 11280) ≡ judged m p
unfolding judged
judged_capped m p = go (leb 11280 p) refl
  where
    go : (x : Bool) → leb 11280 p ≡ x → judged m (min p 11280) ≡ judged m p
    go true e =
        let h = leb-true 11280 p e in
        let q : min p 11280 ≡ 11280 = omega arith in
        rw (q, e)
    go false e =
        let h = leb-false 11280 p e in
        let q : min p 11280 ≡ p = omega arith in
        rw q

value_capped : (m a b : ℕ) (p : List ℕ) → min a 11280 ≡ min b 11280 → judged m (value_after a p) ≡ judged m (value_after b p)
unfolding value_after
value_capped m a b [] h = sym (judged_capped m a) ∙ ap (judged m) h ∙ judged_capped m b
value_capped m a b (c ∷ p) h = value_capped m (10 * a + (c - 48)) (10 * b + (c - 48)) p (omega arith)

-- ---- the items of a line that goes on

items : List ℕ → List (List ℕ)
items s = split 9 (without_return s)

item_of : List (List ℕ) → List ℕ
item_of [] = []
item_of (c ∷ r) = c

-- the digits of a pointer, and what follows
after_pointer : ℕ → ℕ → List (List ℕ) → LineEnd
after_pointer m v [] = none
after_pointer m v (p ∷ []) = none
after_pointer m v (p ∷ c ∷ r) = cond (all digit p && code_point c) (judged m (value_after v p)) none

-- the rest of the second item passes a test
second : (List ℕ → Bool) → ℕ → ℕ → List ℕ → LineEnd
second f m v s = cond (f (item_of (items s))) (judged m v) none

after_zero : List ℕ → Bool
after_zero [] = false
after_zero (b ∷ s) = eqb b 120 && some hexadecimal s

pub rest : ℕ → Phase → List ℕ → LineEnd
rest m Blank s = line_end m (line_says s)
rest m BlankReturn [] = Ok None
rest m BlankReturn (b ∷ s) = none
rest m Comment s = Ok None
rest m (Pointer v) s = after_pointer m v (items s)
rest m (Tab v) s = second code_point m v s
rest m (Zero v) s = second after_zero m v s
rest m (Prefix v) s = second (some hexadecimal) m v s
rest m (CodePoint v) s = second (all hexadecimal) m v s
rest m (Return v) [] = judged m v
rest m (Return v) (b ∷ s) = none
rest m (Past v) s = judged m v
rest m NoEntry s = none
rest m (Faulty c) s = Err c

-- ---- a byte before a line

-- what a byte is: a tab, a carriage return, or neither
data Sort : ℕ → Type 0 where
  tab : Sort 9
  return : Sort 13
  other : {b : ℕ} → eqb b 9 ≡ false → eqb b 13 ≡ false → Sort b

sort : (b : ℕ) → Sort b
sort b = go (eqb b 9) (eqb b 13) refl refl
  where
    go : (x y : Bool) → eqb b 9 ≡ x → eqb b 13 ≡ y → Sort b
    go true y e f = rw (eqb-true b 9 e) tab
    go false true e f = rw (eqb-true b 13 f) return
    go false false e f = other e f

kept : (b : ℕ) (s : List ℕ) → eqb b 13 ≡ false → without_return (b ∷ s) ≡ b ∷ without_return s
unfolding without_return
kept b [] e = rw e
kept b (c ∷ s) e = refl

items_other : (b : ℕ) (s : List ℕ) → eqb b 9 ≡ false → eqb b 13 ≡ false → items (b ∷ s) ≡ before_first b (items s)
unfolding items split
items_other b s e f = rw (kept b s f, e)

items_tab : (s : List ℕ) → items (9 ∷ s) ≡ [] ∷ items s
unfolding items split
items_tab s = rw (kept 9 s refl)

items_return : (c : ℕ) (s : List ℕ) → items (13 ∷ c ∷ s) ≡ before_first 13 (items (c ∷ s))
unfolding items split without_return
items_return c s = refl

items_end : items (13 ∷ []) ≡ [] ∷ []
unfolding items split without_return
items_end = refl

item_more : (b : ℕ) (l : List (List ℕ)) → item_of (before_first b l) ≡ b ∷ item_of l
unfolding item_of before_first
item_more b [] = refl
item_more b (p ∷ l) = refl

-- a test, and then another
both : (x y : Bool) (e : LineEnd) → cond (x && y) e none ≡ cond x (cond y e none) none
both true y e = refl
both false y e = refl

rest_if : (m : ℕ) (x : Bool) (p : Phase) (s : List ℕ) → rest m (cond x p NoEntry) s ≡ cond x (rest m p s) none
unfolding rest
rest_if m true p s = refl
rest_if m false p s = refl

-- ---- the second item

-- a test of its next byte, that neither a tab nor a carriage return passes, and a test of those after it
module _ (f g : List ℕ → Bool) (next : ℕ → Bool) (f_none : f [] ≡ false) (f_more : (b : ℕ) (t : List ℕ) → f (b ∷ t) ≡ (next b && g t))
    (no_tab : next 9 ≡ false) (no_return : next 13 ≡ false) where
  second_return : (m v : ℕ) (s : List ℕ) → second f m v (13 ∷ s) ≡ none
  unfolding second item_of
  second_return m v [] = rw (items_end, f_none)
  second_return m v (c ∷ s) = rw (items_return c s, item_more 13 (items (c ∷ s)), f_more 13 (item_of (items (c ∷ s))), no_return)

  second_tab : (m v : ℕ) (s : List ℕ) → second f m v (9 ∷ s) ≡ none
  unfolding second item_of
  second_tab m v s = rw (items_tab s, f_none)

  second_other : (m v b : ℕ) (s : List ℕ) → eqb b 9 ≡ false → eqb b 13 ≡ false → second f m v (b ∷ s) ≡ cond (next b) (second g m v s) none
  unfolding second
  second_other m v b s e h =
      rw (items_other b s e h, item_more b (items s), f_more b (item_of (items s))) (both (next b) (g (item_of (items s))) (judged m v))

  second_sorted : (m v : ℕ) (s : List ℕ) {b : ℕ} → Sort b → second f m v (b ∷ s) ≡ cond (next b) (second g m v s) none
  second_sorted m v s tab = rw (second_tab m v s, no_tab)
  second_sorted m v s return = rw (second_return m v s, no_return)
  second_sorted m v s (other {b = b} e h) = second_other m v b s e h

  second_step : (m v b : ℕ) (s : List ℕ) → second f m v (b ∷ s) ≡ cond (next b) (second g m v s) none
  second_step m v b s = second_sorted m v s (sort b)

-- 0, x, and hexadecimal digits
code_point_more : (b : ℕ) (t : List ℕ) → code_point (b ∷ t) ≡ (eqb b 48 && after_zero t)
unfolding code_point after_zero
code_point_more b [] = sym (and-false (eqb b 48))
code_point_more b (c ∷ t) = and_assoc (eqb b 48) (eqb c 120) (some hexadecimal t)

tab_step : (m v b : ℕ) (s : List ℕ) → second code_point m v (b ∷ s) ≡ cond (eqb b 48) (second after_zero m v s) none
unfolding code_point
tab_step m v b s = second_step code_point after_zero (λ c. eqb c 48) refl code_point_more refl refl m v b s

zero_step : (m v b : ℕ) (s : List ℕ) → second after_zero m v (b ∷ s) ≡ cond (eqb b 120) (second (some hexadecimal) m v s) none
unfolding after_zero
zero_step m v b s = second_step after_zero (some hexadecimal) (λ c. eqb c 120) refl (λ c t. refl) refl refl m v b s

prefix_step : (m v b : ℕ) (s : List ℕ) → second (some hexadecimal) m v (b ∷ s) ≡ cond (hexadecimal b) (second (all hexadecimal) m v s) none
unfolding some hexadecimal digit between
prefix_step m v b s = second_step (some hexadecimal) (all hexadecimal) hexadecimal refl (λ c t. refl) refl refl m v b s

-- the digits themselves: a tab, or a carriage return at the end, ends them
module _ (m v : ℕ) where
  digits_tab : (s : List ℕ) → second (all hexadecimal) m v (9 ∷ s) ≡ judged m v
  unfolding second item_of all
  digits_tab s = rw (items_tab s)

  digits_return : (s : List ℕ) → second (all hexadecimal) m v (13 ∷ s) ≡ rest m (Return v) s
  unfolding second item_of all hexadecimal digit between rest
  digits_return [] = rw items_end
  digits_return (c ∷ s) = rw (items_return c s, item_more 13 (items (c ∷ s)))

  digits_other : (b : ℕ) (s : List ℕ) → eqb b 9 ≡ false → eqb b 13 ≡ false
      → second (all hexadecimal) m v (b ∷ s) ≡ cond (hexadecimal b) (second (all hexadecimal) m v s) none
  unfolding second all
  digits_other b s e h =
      rw (items_other b s e h, item_more b (items s)) (both (hexadecimal b) (all hexadecimal (item_of (items s))) (judged m v))

  code_point_sorted : (s : List ℕ) {b : ℕ} → Sort b → second (all hexadecimal) m v (b ∷ s) ≡ rest m (after_code_point v b) s
  unfolding after_code_point hexadecimal digit between rest
  code_point_sorted s tab = digits_tab s
  code_point_sorted s return = digits_return s
  code_point_sorted s (other {b = b} e h) = digits_other b s e h ∙ rw (e, h) (sym (rest_if m (hexadecimal b) (CodePoint v) s))

-- ---- the pointer

-- a digit more, or another byte, before the rest of the first item
module _ (m v b : ℕ) where
  pointer_digit : (l : List (List ℕ)) → digit b ≡ true → after_pointer m v (before_first b l) ≡ after_pointer m (with_digit v b) l
  unfolding after_pointer before_first all with_digit value_after
  pointer_digit [] e = refl
  pointer_digit (p ∷ []) e = refl
  pointer_digit (p ∷ c ∷ r) e = rw (e, value_capped m (min (10 * v + (b - 48)) 11280) (10 * v + (b - 48)) p (omega arith))

  pointer_other : (l : List (List ℕ)) → digit b ≡ false → after_pointer m v (before_first b l) ≡ none
  unfolding after_pointer before_first all
  pointer_other [] e = refl
  pointer_other (p ∷ []) e = refl
  pointer_other (p ∷ c ∷ r) e = rw e

tabbed : (m v : ℕ) (s : List ℕ) (l : List (List ℕ)) → items s ≡ l → after_pointer m v ([] ∷ l) ≡ second code_point m v s
unfolding after_pointer second all value_after item_of code_point
tabbed m v s [] e = rw e
tabbed m v s (c ∷ r) e = rw e

pointer_return : (m v : ℕ) (s : List ℕ) → after_pointer m v (items (13 ∷ s)) ≡ none
unfolding after_pointer digit between
pointer_return m v [] = rw items_end
pointer_return m v (c ∷ s) = rw (items_return c s) (pointer_other m v 13 (items (c ∷ s)) refl)

pointer_sorted : (m v : ℕ) (s : List ℕ) {b : ℕ} → Sort b → after_pointer m v (items (b ∷ s)) ≡ rest m (after_digits v b) s
unfolding after_digits digit between rest
pointer_sorted m v s tab = rw (items_tab s) (tabbed m v s (items s) refl)
pointer_sorted m v s return = pointer_return m v s
pointer_sorted m v s (other {b = b} e h) = rw (items_other b s e h) (go (digit b) refl)
  where
    go : (x : Bool) → digit b ≡ x → after_pointer m v (before_first b (items s)) ≡ rest m (after_digits v b) s
    go true q = rw q (pointer_digit m v b (items s) q)
    go false q = rw (q, e) (pointer_other m v b (items s) q)

-- ---- the blanks before the pointer

module _ (m b : ℕ) where
  -- the first item begins with a digit, or not
  first_digit : (l : List (List ℕ)) → digit b ≡ true → line_end m (from_items (before_first b l)) ≡ after_pointer m (with_digit 0 b) l
  unfolding from_items before_first some after_pointer with_digit value_after line_end
  first_digit [] e = refl
  first_digit (p ∷ []) e = refl
  first_digit (p ∷ c ∷ r) e =
      rw (e, value_capped m (min (10 * 0 + (b - 48)) 11280) (10 * 0 + (b - 48)) p (omega arith))
      (judged_if (all digit p && code_point c) (value_after (10 * 0 + (b - 48)) p))
    where
      judged_if : (x : Bool) (p : ℕ) → line_end m (cond x (entry p) no_entry) ≡ cond x (judged m p) none
      judged_if true p = refl
      judged_if false p = refl

module _ (b : ℕ) where
  first_other : (l : List (List ℕ)) → digit b ≡ false → from_items (before_first b l) ≡ no_entry
  unfolding from_items before_first some
  first_other [] e = refl
  first_other (p ∷ []) e = refl
  first_other (p ∷ c ∷ r) e = rw e

  content : (t : List ℕ) → eqb b 35 ≡ false → eqb b 9 ≡ false → from_content (b ∷ t) ≡ from_items (before_first b (split 9 t))
  unfolding from_content split
  content t e h = rw (e, h)

  -- a byte that is no carriage return
  says_kept : (s : List ℕ) → eqb b 13 ≡ false
      → line_says (b ∷ s) ≡ from_content (cond (blank b) (without_blanks (without_return s)) (b ∷ without_return s))
  unfolding line_says without_blanks
  says_kept s e = rw (kept b s e)

says_return : (m : ℕ) (s : List ℕ) → line_end m (line_says (13 ∷ s)) ≡ rest m BlankReturn s
unfolding line_says line_end rest without_return without_blanks blank from_content split digit between
says_return m [] = refl
says_return m (c ∷ s) = rw (first_other 13 (split 9 (without_return (c ∷ s))) refl)

-- a byte that is no blank
module _ (m b : ℕ) (s : List ℕ) (e : eqb b 9 ≡ false) (h : eqb b 13 ≡ false) (k : blank b ≡ false) where
  content_step : (x y : Bool) → digit b ≡ x → eqb b 35 ≡ y → line_end m (from_content (b ∷ without_return s)) ≡ rest m (after_blanks b) s
  unfolding after_blanks rest items line_end from_content
  content_step true y p q =
      let r : eqb b 35 ≡ false = ne_eqb b 35 (λ z. omega (arith, (digit_range b refl p).0)) in
      rw (content b (without_return s) r e, k, p) (first_digit m b (split 9 (without_return s)) p)
  content_step false true p q = rw (k, p, q)
  content_step false false p q = rw (content b (without_return s) q e, first_other b (split 9 (without_return s)) p, k, p, q, h)

blank_sorted : (m : ℕ) (s : List ℕ) {b : ℕ} → Sort b → line_end m (line_says (b ∷ s)) ≡ rest m (after_blanks b) s
unfolding after_blanks rest line_says blank digit between
blank_sorted m s tab = rw (says_kept 9 s refl)
blank_sorted m s return = says_return m s
blank_sorted m s (other {b = b} e h) = rw (says_kept b s h) (go (blank b) refl)
  where
    go : (x : Bool) → blank b ≡ x
        → line_end m (from_content (cond x (without_blanks (without_return s)) (b ∷ without_return s))) ≡ rest m (after_blanks b) s
    go true k = rw k
    go false k = content_step m b s e h k (digit b) (eqb b 35) refl refl

-- ---- every phase

pub rest_step : (m : ℕ) (x : Phase) (b : ℕ) (s : List ℕ) → rest m x (b ∷ s) ≡ rest m (next_phase x b) s
unfolding rest
rest_step m Blank b s = blank_sorted m s (sort b)
rest_step m BlankReturn b s = refl
rest_step m Comment b s = refl
rest_step m (Pointer v) b s = pointer_sorted m v s (sort b)
rest_step m (Tab v) b s = tab_step m v b s ∙ sym (rest_if m (eqb b 48) (Zero v) s)
rest_step m (Zero v) b s = zero_step m v b s ∙ sym (rest_if m (eqb b 120) (Prefix v) s)
rest_step m (Prefix v) b s = prefix_step m v b s ∙ sym (rest_if m (hexadecimal b) (CodePoint v) s)
rest_step m (CodePoint v) b s = code_point_sorted m v s (sort b)
rest_step m (Return v) b s = refl
rest_step m (Past v) b s = refl
rest_step m NoEntry b s = refl
rest_step m (Faulty c) b s = refl

pub rest_end : (m : ℕ) (x : Phase) → rest m x [] ≡ phase_end m x
unfolding rest line_says line_end from_content without_blanks without_return after_pointer items split second item_of code_point after_zero some all
rest_end m Blank = refl
rest_end m BlankReturn = refl
rest_end m Comment = refl
rest_end m (Pointer v) = refl
rest_end m (Tab v) = refl
rest_end m (Zero v) = refl
rest_end m (Prefix v) = refl
rest_end m (CodePoint v) = refl
rest_end m (Return v) = refl
rest_end m (Past v) = refl
rest_end m NoEntry = refl
rest_end m (Faulty c) = refl

-- a whole line
pub rest_whole : (m : ℕ) (s : List ℕ) → rest m Blank s ≡ line_end m (line_says s)
unfolding rest
rest_whole m s = refl

-- a line after a fault
pub rest_faulty : (m : ℕ) (c : Cause) (s : List ℕ) → rest m (Faulty c) s ≡ Err c
unfolding rest
rest_faulty m c s = refl
