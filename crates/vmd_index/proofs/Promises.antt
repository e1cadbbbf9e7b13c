-- What the definition of an index promises: a table's bits are set exactly where a line has an entry. Assumes nothing.
use Rattle.std.proofs.Common.{◌≡◌, ℕ, suc, ◌/◌, ◌%◌, ◌^◌, ◌<◌, ◌≤◌, Bool, true, false, cond, eqb, ltb, leb, List, [], ◌∷◌, length, get_or, refl, ap, ◌∙◌, arith, leb-false}
use Rattle.vmd_format.specs.Characters.{in_index}
use Rattle.vmd_presence.specs.Presence.{bit, Presence}
use Rattle.vmd_index.specs.declared.Cause.TheVariants.{TooLarge, NotAbove}
use Rattle.std.specs.Prelude.{Some, Ok, Err}
use Rattle.vmd_index.specs.Index.{lines, Line, nothing, entry, no_entry, line_says, judged, line_end, Pointers, pointers, faulty, and_pointer, line_and, pointers_from, index_pointers, among, table, words, answer_of, index_answer}
use Rattle.vmd_index.proofs.Words.{Under, not_among, length_table, table_bit}

-- the pointers of the lines that are entries
unfoldable pub with_entry : Line → List ℕ → List ℕ
with_entry nothing ps = ps
with_entry (entry p) ps = p ∷ ps
with_entry no_entry ps = ps

unfoldable pub entries : List (List ℕ) → List ℕ
entries [] = []
entries (l ∷ r) = with_entry (line_says l) (entries r)

-- ---- without a fault, the pointers are those, and below 11,280

abbrev Holds : List ℕ → Pointers → Type 0
Holds qs (pointers ps) = (ps ≡ qs) × Under 11280 ps
Holds qs (faulty n c) = Unit {0}

holds_more : (p : ℕ) (qs : List ℕ) (x : Pointers) → p < 11280 → Holds qs x → Holds (p ∷ qs) (and_pointer p x)
unfolding and_pointer
holds_more p qs (pointers ps) h a = (ap (λ l. p ∷ l) a.0, (h, a.1))
holds_more p qs (faulty n c) h a = tt

-- one line, where the lines after it hold
module _ (n m : ℕ) (qs : List ℕ) (more : ℕ → Pointers) (ih : (k : ℕ) → Holds qs (more k)) where
  judged_holds : (p : ℕ) (x y : Bool) → leb 11280 p ≡ x → ltb p m ≡ y
      → Holds (p ∷ qs) (line_and (cond x (Err TooLarge) (cond y (Err NotAbove) (Ok (Some p)))) n m more)
  unfolding line_and
  judged_holds p true y e f = tt
  judged_holds p false true e f = tt
  judged_holds p false false e f = holds_more p qs (more (suc p)) (leb-false 11280 p e) (ih (suc p))

  line_holds : (x : Line) → Holds (with_entry x qs) (line_and (line_end m x) n m more)
  unfolding line_and line_end judged with_entry
  line_holds nothing = ih m
  line_holds (entry p) = judged_holds p (leb 11280 p) (ltb p m) refl refl
  line_holds no_entry = tt

all_hold : (n m : ℕ) (l : List (List ℕ)) → Holds (entries l) (pointers_from n m l)
unfolding pointers_from entries
all_hold n m [] = (refl, tt)
all_hold n m (l ∷ r) = line_holds n m (entries r) (λ k. pointers_from (suc n) k r) (λ k. all_hold (suc n) k r) (line_says l)

-- ---- a table

-- "set exactly where the index has an entry": the bits of 353 words, of which those past pointer 11,279 are 0
pub record Tells (ws : List ℕ) (s : List ℕ) : Type 0 where
  pub long : length ws ≡ 353
  pub set_where : (p : ℕ) → p < 11296 → get_or ws (p / 32) 0 / 2 ^ (p % 32) % 2 ≡ cond (among p (entries (lines s))) 1 0
  pub past : (p : ℕ) → 11280 ≤ p → p < 11296 → get_or ws (p / 32) 0 / 2 ^ (p % 32) % 2 ≡ 0

told : (s : List ℕ) (x : Pointers) → Holds (entries (lines s)) x → (ws : List ℕ) → answer_of x ≡ words ws → Tells ws s
unfolding answer_of
told s (pointers ps) h ws e =
    let q : table ps ≡ ws = cc in
    record {
      long = rw (← q) (length_table ps);
      set_where = λ p k. rw (← q, ← h.0) (table_bit ps p k);
      past = λ p k l. rw (← q) (table_bit ps p l ∙ rw (not_among 11280 p ps k h.1));
    }
told s (faulty n c) h ws e = let z : ◌≡◌ {A = ℕ} 0 1 = cc in absurd (omega arith)

pub table_tells : (s ws : List ℕ) → index_answer s ≡ words ws → Tells ws s
unfolding index_answer index_pointers
table_tells s ws e = told s (pointers_from 1 0 (lines s)) (all_hold 1 0 (lines s)) ws e

-- the table of an index whose entries are the pointers of the runs is a presence table, as the library's is
pub presence_told : (s ws : List ℕ) → ((p : ℕ) → p < 11296 → among p (entries (lines s)) ≡ in_index p) → index_answer s ≡ words ws → Presence ws
unfolding bit
presence_told s ws h e =
    let t = table_tells s ws e in
    record { long = t.long; bits = λ (p : ℕ) (k : p < 11296). rw (t.set_where p k, h p k) (one_is (in_index p)) }
  where
    one_is : (x : Bool) → eqb (cond x 1 0) 1 ≡ x
    one_is true = refl
    one_is false = refl
