-- The reader as the code goes, byte by byte: what each byte makes of a state, over the code's own types. Any numbers in a state
-- mean something. Definitions only.
use Rattle.std.specs.Prelude.{ℕ, ◌+◌, ◌-◌, ◌*◌, ◌/◌, ◌%◌, ◌^◌, min, cond, List, [], ◌∷◌, None, Some, Result, Ok, Err, replicate, ◌==◌, nat_lt, slice_index, slice_set}
use Rattle.vmd_index.specs.declared.Cause.TheVariants as cause
use Rattle.vmd_index.specs.declared.Phase.{Phase}
use Rattle.vmd_index.specs.declared.Phase.TheVariants.{Blank, BlankReturn, Comment, Pointer, Tab, Zero, Prefix, CodePoint, Return, Past, NoEntry, Faulty}
use Rattle.vmd_index.specs.declared.IndexReader.{IndexReader}
use Rattle.vmd_index.specs.declared.IndexLine.{IndexLine}
use Rattle.vmd_index.specs.declared.Fault.{Fault}
use Rattle.vmd_index.specs.declared.IndexRead.{IndexRead}
use Rattle.vmd_index.specs.Index.{blank, digit, hexadecimal, judged, capped, LineEnd, Answer, words, faulty_line}

-- ---- one byte of a line

-- the pointer with a digit more; 11,280 stands for all from there on
unfoldable pub with_digit : ℕ → ℕ → ℕ
with_digit p b = min (10 * p + (b - 48)) 11280

unfoldable pub after_blanks : ℕ → Phase
after_blanks b =
    cond (blank b) Blank (cond (digit b) (Pointer (with_digit 0 b)) (cond (b == 35) Comment (cond (b == 13) BlankReturn NoEntry)))

unfoldable pub after_digits : ℕ → ℕ → Phase
after_digits p b = cond (digit b) (Pointer (with_digit p b)) (cond (b == 9) (Tab p) NoEntry)

unfoldable pub after_code_point : ℕ → ℕ → Phase
after_code_point p b = cond (hexadecimal b) (CodePoint p) (cond (b == 9) (Past p) (cond (b == 13) (Return p) NoEntry))

abbrev pub next_phase : Phase → ℕ → Phase
next_phase Blank b = after_blanks b
next_phase BlankReturn b = NoEntry
next_phase Comment b = Comment
next_phase (Pointer p) b = after_digits p b
next_phase (Tab p) b = cond (b == 48) (Zero p) NoEntry
next_phase (Zero p) b = cond (b == 120) (Prefix p) NoEntry
next_phase (Prefix p) b = cond (hexadecimal b) (CodePoint p) NoEntry
next_phase (CodePoint p) b = after_code_point p b
next_phase (Return p) b = NoEntry
next_phase (Past p) b = Past p
next_phase NoEntry b = NoEntry
next_phase (Faulty c) b = Faulty c

-- ---- the end of a line

abbrev pub phase_end : ℕ → Phase → LineEnd
phase_end least Blank = Ok None
phase_end least BlankReturn = Ok None
phase_end least Comment = Ok None
phase_end least (Pointer p) = Err cause.NoEntry
phase_end least (Tab p) = Err cause.NoEntry
phase_end least (Zero p) = Err cause.NoEntry
phase_end least (Prefix p) = Err cause.NoEntry
phase_end least (CodePoint p) = judged least p
phase_end least (Return p) = judged least p
phase_end least (Past p) = judged least p
phase_end least NoEntry = Err cause.NoEntry
phase_end least (Faulty c) = Err c

-- ---- what it changes

-- the pointer of an entry; 11,280 for none
abbrev pub pointer_of : LineEnd → ℕ
pointer_of (Ok None) = 11280
pointer_of (Ok (Some p)) = p
pointer_of (Err c) = 11280

-- a line at fault keeps its number
abbrev pub line_after : ℕ → LineEnd → ℕ
line_after n (Ok e) = capped (n + 1)
line_after n (Err c) = n

abbrev pub least_after : ℕ → LineEnd → ℕ
least_after m (Ok None) = m
least_after m (Ok (Some p)) = min (p + 1) 11280
least_after m (Err c) = m

-- and stays at fault
abbrev pub phase_after : LineEnd → Phase
phase_after (Ok e) = Blank
phase_after (Err c) = Faulty c

abbrev pub outcome_after : ℕ → LineEnd → Result (Unit {0}) Fault
outcome_after n (Ok e) = Ok tt
outcome_after n (Err c) = Err (record { line = n; cause = c })

-- the words with a pointer's bit added; as they were where there is no such pointer
unfoldable pub marked : List ℕ → ℕ → List ℕ
marked ws p = cond (nat_lt p 11280) (slice_set ws (p / 32) ((slice_index ws (p / 32) + 2 ^ (p % 32)) % 2 ^ 32)) ws

-- ---- the reader

unfoldable pub first_reader : IndexReader
first_reader = record { words = replicate 353 0; line = 1; least = 0; phase = Blank }

-- a table, and the line that is being read
abbrev pub reader_at : List ℕ → IndexLine → IndexReader
reader_at ws x = record { words = ws; line = x.line; least = x.least; phase = x.phase }

unfoldable pub after_line : LineEnd → IndexReader → IndexReader
after_line e r = record {
  words = marked r.words (pointer_of e);
  line = line_after r.line e;
  least = least_after r.least e;
  phase = phase_after e;
}

unfoldable pub in_line : ℕ → IndexReader → IndexReader
in_line b r = record { words = r.words; line = r.line; least = r.least; phase = next_phase r.phase b }

unfoldable pub step : IndexReader → ℕ → IndexReader
step r b = cond (b == 10) (after_line (phase_end r.least r.phase) r) (in_line b r)

unfoldable pub fed : IndexReader → List ℕ → IndexReader
fed r [] = r
fed r (b ∷ s) = fed (step r b) s

-- the end of the input ends the last line
unfoldable pub ended : IndexReader → IndexRead
ended r = record {
  words = marked r.words (pointer_of (phase_end r.least r.phase));
  outcome = outcome_after r.line (phase_end r.least r.phase);
}

abbrev pub answer_in : List ℕ → Result (Unit {0}) Fault → Answer
answer_in ws (Ok e) = words ws
answer_in ws (Err f) = faulty_line f.line f.cause

unfoldable pub answered : IndexRead → Answer
answered x = answer_in x.words x.outcome
