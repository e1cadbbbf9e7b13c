-- The published index, and its presence table: request h), "set exactly where the index has an entry". The index has a line for
-- each entry: the pointer in decimal, a tab, the code point as 0x and hexadecimal digits, and what may follow after another tab;
-- blanks may stand before the pointer. Lines that begin with # and blank lines say nothing. Definitions only.
use Rattle.std.specs.Prelude.{ℕ, zero, suc, ◌+◌, ◌-◌, ◌*◌, ◌^◌, min, Bool, true, false, cond, ◌&&◌, ◌||◌, List, [], ◌∷◌, Option, None, Some, Result, Ok, Err, ◌==◌, nat_le, nat_lt}
use Rattle.vmd_format.specs.Characters.{between}
use Rattle.vmd_index.specs.declared.Cause.{Cause}
use Rattle.vmd_index.specs.declared.Cause.TheVariants.{NoEntry, TooLarge, NotAbove}

-- ---- lines and items

-- a byte before the first of some runs of bytes
unfoldable pub before_first : ℕ → List (List ℕ) → List (List ℕ)
before_first b [] = (b ∷ []) ∷ []
before_first b (l ∷ r) = (b ∷ l) ∷ r

-- the runs between the bytes d, one more than there are such bytes
unfoldable pub split : ℕ → List ℕ → List (List ℕ)
split d [] = [] ∷ []
split d (b ∷ s) = cond (b == d) ([] ∷ split d s) (before_first b (split d s))

-- The lines, which end with line feeds, and what follows the last line feed: a line without one, or, at the end of an input that
-- ends with a line feed, an empty line, which says nothing.
unfoldable pub lines : List ℕ → List (List ℕ)
lines s = split 10 s

-- a line without the carriage return at its end
unfoldable pub without_return : List ℕ → List ℕ
without_return [] = []
without_return (b ∷ []) = cond (b == 13) [] (b ∷ [])
without_return (b ∷ c ∷ s) = b ∷ without_return (c ∷ s)

-- a space or a tab
unfoldable pub blank : ℕ → Bool
blank b = b == 32 || b == 9

unfoldable pub without_blanks : List ℕ → List ℕ
without_blanks [] = []
without_blanks (b ∷ s) = cond (blank b) (without_blanks s) (b ∷ s)

-- ---- numbers

unfoldable pub digit : ℕ → Bool
digit b = between 48 57 b

unfoldable pub hexadecimal : ℕ → Bool
hexadecimal b = digit b || between 65 70 b || between 97 102 b

unfoldable pub all : (ℕ → Bool) → List ℕ → Bool
all f [] = true
all f (b ∷ s) = f b && all f s

-- one or more, and all
unfoldable pub some : (ℕ → Bool) → List ℕ → Bool
some f [] = false
some f (b ∷ s) = f b && all f s

-- the number that digits make after those of n
unfoldable pub value_after : ℕ → List ℕ → ℕ
value_after n [] = n
value_after n (b ∷ s) = value_after (10 * n + (b - 48)) s

-- 0x and hexadecimal digits
unfoldable pub code_point : List ℕ → Bool
code_point [] = false
code_point (a ∷ []) = false
code_point (a ∷ b ∷ s) = a == 48 && b == 120 && some hexadecimal s

-- ---- what a line says

pub data Line : Type 0 where
  -- a comment, or only blanks
  nothing : Line
  -- the entry of a pointer
  entry : ℕ → Line
  no_entry : Line

-- the pointer and the code point; what follows the second tab is not looked at
unfoldable pub from_items : List (List ℕ) → Line
from_items [] = no_entry
from_items (p ∷ []) = no_entry
from_items (p ∷ c ∷ r) = cond (some digit p && code_point c) (entry (value_after 0 p)) no_entry

unfoldable pub from_content : List ℕ → Line
from_content [] = nothing
from_content (b ∷ s) = cond (b == 35) nothing (from_items (split 9 (b ∷ s)))

unfoldable pub line_says : List ℕ → Line
line_says l = from_content (without_blanks (without_return l))

-- ---- all lines

-- What the end of a line finds: nothing, the pointer of an entry, or why the line is at fault.
abbrev pub LineEnd : Type 0
LineEnd = Result (Option ℕ) Cause

-- A pointer is one of 11,280, and above the one before it: `least` is one more than that one, and 0 where there is none.
unfoldable pub judged : ℕ → ℕ → LineEnd
judged least p = cond (nat_le 11280 p) (Err TooLarge) (cond (nat_lt p least) (Err NotAbove) (Ok (Some p)))

unfoldable pub line_end : ℕ → Line → LineEnd
line_end least nothing = Ok None
line_end least (entry p) = judged least p
line_end least no_entry = Err NoEntry

-- the pointers of an index, or the number of its first line at fault, and why
pub data Pointers : Type 0 where
  pointers : List ℕ → Pointers
  faulty : ℕ → Cause → Pointers

unfoldable pub and_pointer : ℕ → Pointers → Pointers
and_pointer p (pointers ps) = pointers (p ∷ ps)
and_pointer p (faulty n c) = faulty n c

-- line numbers stop at the largest number of 64 bits
unfoldable pub capped : ℕ → ℕ
capped n = min n 18446744073709551615

-- line n, and the lines after it: `more` says what these give where no pointer below a number may come
unfoldable pub line_and : LineEnd → ℕ → ℕ → (ℕ → Pointers) → Pointers
line_and (Ok None) n least more = more least
line_and (Ok (Some p)) n least more = and_pointer p (more (suc p))
line_and (Err c) n least more = faulty (capped n) c

-- lines, the first of which is line n
unfoldable pub pointers_from : ℕ → ℕ → List (List ℕ) → Pointers
pointers_from n least [] = pointers []
pointers_from n least (l ∷ r) = line_and (line_end least (line_says l)) n least (λ m. pointers_from (suc n) m r)

unfoldable pub index_pointers : List ℕ → Pointers
index_pointers s = pointers_from 1 0 (lines s)

-- ---- the presence table

unfoldable pub among : ℕ → List ℕ → Bool
among p [] = false
among p (q ∷ l) = p == q || among p l

-- the sum of 2 ^ k over the k below n for which 32 i + k is among the pointers
unfoldable pub bits_below : ℕ → ℕ → List ℕ → ℕ
bits_below zero i ps = 0
bits_below (suc k) i ps = bits_below k i ps + cond (among (32 * i + k) ps) (2 ^ k) 0

-- n words, from word i on
unfoldable pub words_from : ℕ → ℕ → List ℕ → List ℕ
words_from zero i ps = []
words_from (suc n) i ps = bits_below 32 i ps ∷ words_from n (suc i) ps

-- "353 words of 32 bits, one bit for each of 11,280 pointers, lowest first"
unfoldable pub table : List ℕ → List ℕ
table ps = words_from 353 0 ps

-- what the whole of an index makes: the table, or the number of its first line at fault, and why
pub data Answer : Type 0 where
  words : List ℕ → Answer
  faulty_line : ℕ → Cause → Answer

unfoldable pub answer_of : Pointers → Answer
answer_of (pointers ps) = words (table ps)
answer_of (faulty n c) = faulty_line n c

unfoldable pub index_answer : List ℕ → Answer
index_answer s = answer_of (index_pointers s)
