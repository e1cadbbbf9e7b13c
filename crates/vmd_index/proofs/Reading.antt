-- Reading an index in pieces gives what the definition says of the whole of it. Assumes nothing.
use Rattle.std.proofs.Common.{◌≡◌, ℕ, suc, ◌+◌, min, Bool, true, false, cond, eqb, List, [], ◌∷◌, ◌++◌, sym, refl, ap, ◌∙◌, append_assoc, append-nil, arith}
use Rattle.std.specs.Prelude.{None, Some, Ok, Err}
use Rattle.vmd_index.specs.declared.Phase.{Phase}
use Rattle.vmd_index.specs.declared.Phase.TheVariants.{Blank, Faulty}
use Rattle.vmd_index.specs.declared.IndexReader.{IndexReader}
use Rattle.vmd_index.specs.declared.Cause.{Cause}
use Rattle.vmd_index.specs.Index.{before_first, split, lines, Pointers, pointers, faulty, and_pointer, capped, LineEnd, line_and, pointers_from, index_pointers, table, Answer, words, faulty_line, answer_of, index_answer}
use Rattle.vmd_index.specs.Steps.{next_phase, phase_end, pointer_of, outcome_after, marked, after_line, in_line, first_reader, step, fed, ended, answer_in, answered}
use Rattle.vmd_index.proofs.Laws.{Fair, end_fair, reader}
use Rattle.vmd_index.proofs.Words.{Under, under_snoc, not_among, table_none, table_marked, none_marked}
use Rattle.vmd_index.proofs.Lines.{rest, rest_step, rest_end, rest_whole, rest_faulty}

-- ---- pieces

-- pieces one after another
unfoldable pub fed_all : IndexReader → List (List ℕ) → IndexReader
fed_all r [] = r
fed_all r (s ∷ l) = fed_all (fed r s) l

unfoldable pub joined : List (List ℕ) → List ℕ
joined [] = []
joined (s ∷ l) = s ++ joined l

pub fed_append : (r : IndexReader) (s t : List ℕ) → fed r (s ++ t) ≡ fed (fed r s) t
unfolding fed
fed_append r [] t = refl
fed_append r (b ∷ s) t = fed_append (step r b) s t

-- feeding them is feeding them joined
pub fed_joined : (r : IndexReader) (l : List (List ℕ)) → fed_all r l ≡ fed r (joined l)
unfolding fed_all joined fed
fed_joined r [] = refl
fed_joined r (s ∷ l) = fed_joined (fed r s) l ∙ sym (fed_append r s (joined l))

-- ---- what is left of an index

-- the lines from one on that is in a phase, with the bytes of it that are left
lines_from : Phase → ℕ → ℕ → List (List ℕ) → Pointers
lines_from x n m [] = line_and (rest m x []) n m (λ k. pointers [])
lines_from x n m (l ∷ r) = line_and (rest m x l) n m (λ k. pointers_from (suc n) k r)

-- a byte more
line_byte : (x : Phase) (n m b : ℕ) (l : List (List ℕ)) → lines_from x n m (before_first b l) ≡ lines_from (next_phase x b) n m l
unfolding lines_from before_first pointers_from
line_byte x n m b [] = rw (rest_step m x b [])
line_byte x n m b (l ∷ r) = rw (rest_step m x b l)

-- a line feed
line_feed : (x : Phase) (n m : ℕ) (r : List (List ℕ))
    → lines_from x n m ([] ∷ r) ≡ line_and (phase_end m x) n m (λ k. pointers_from (suc n) k r)
unfolding lines_from
line_feed x n m r = rw (rest_end m x)

-- a line from its start
line_whole : (n m : ℕ) (l : List ℕ) (r : List (List ℕ)) → lines_from Blank n m (l ∷ r) ≡ pointers_from n m (l ∷ r)
unfolding lines_from pointers_from
line_whole n m l r = rw (rest_whole m l)

lines_whole : (n m d : ℕ) (s : List ℕ) → lines_from Blank n m (split d s) ≡ pointers_from n m (split d s)
unfolding split before_first
lines_whole n m d [] = line_whole n m [] []
lines_whole n m d (b ∷ s) = go (eqb b d) (split d s)
  where
    go : (x : Bool) (l : List (List ℕ))
        → lines_from Blank n m (cond x ([] ∷ l) (before_first b l)) ≡ pointers_from n m (cond x ([] ∷ l) (before_first b l))
    go true l = line_whole n m [] l
    go false [] = line_whole n m (b ∷ []) []
    go false (k ∷ l) = line_whole n m (b ∷ k) l

-- after a fault
line_faulty : (c : Cause) (n m : ℕ) (l : List (List ℕ)) → lines_from (Faulty c) n m l ≡ faulty (capped n) c
unfolding lines_from line_and
line_faulty c n m [] = rw (rest_faulty m c [])
line_faulty c n m (l ∷ r) = rw (rest_faulty m c l)

-- ---- the answer, with the pointers that came before

with_seen : List ℕ → Pointers → Answer
with_seen seen (pointers ps) = words (table (seen ++ ps))
with_seen seen (faulty n c) = faulty_line n c

seen_none : (x : Pointers) → with_seen [] x ≡ answer_of x
unfolding with_seen answer_of
seen_none (pointers ps) = refl
seen_none (faulty n c) = refl

seen_more : (seen : List ℕ) (p : ℕ) (x : Pointers) → with_seen (seen ++ (p ∷ [])) x ≡ with_seen seen (and_pointer p x)
unfolding with_seen and_pointer
seen_more seen p (pointers ps) = rw (append_assoc seen (p ∷ []) ps)
seen_more seen p (faulty n c) = refl

-- ---- reading

abbrev found : IndexReader → Answer
found r = answered (ended r)

-- from any place in the index whose pointers so far are these: the answer is that of what is left
abbrev Right : List ℕ → Type 0
Right s = (n m : ℕ) (x : Phase) (seen : List ℕ) → Under m seen
    → found (fed (reader (table seen) (capped n) m x) s) ≡ with_seen seen (lines_from x n m (split 10 s))

next_number : (n : ℕ) → capped (capped n + 1) ≡ capped (suc n)
unfolding capped
next_number n = omega arith

module _ (n m : ℕ) (x : Phase) (seen : List ℕ) (u : Under m seen) where
  -- the end of the input
  right_end : (e : LineEnd) → Fair m e
      → answer_in (marked (table seen) (pointer_of e)) (outcome_after (capped n) e) ≡ with_seen seen (line_and e n m (λ k. pointers []))
  unfolding with_seen line_and and_pointer
  right_end (Ok None) f = rw (none_marked (table seen), append-nil seen)
  right_end (Ok (Some p)) f = rw (table_marked seen p f.1 (not_among m p seen f.0 u))
  right_end (Err c) f = refl

  -- the end of a line
  module _ (s : List ℕ) (ih : Right s) where
    right_line : (e : LineEnd) → Fair m e
        → found (fed (after_line e (reader (table seen) (capped n) m x)) s)
        ≡ with_seen seen (line_and e n m (λ k. pointers_from (suc n) k (split 10 s)))
    unfolding after_line line_and
    right_line (Ok None) f = rw (none_marked (table seen), next_number n, ← lines_whole (suc n) m 10 s) (ih (suc n) m Blank seen u)
    right_line (Ok (Some p)) f =
        let q : min (p + 1) 11280 ≡ suc p = omega (arith, f.1) in
        rw (table_marked seen p f.1 (not_among m p seen f.0 u), next_number n, q, ← lines_whole (suc n) (suc p) 10 s)
        (ih (suc n) (suc p) Blank (seen ++ (p ∷ [])) (under_snoc m p seen f.0 u)
        ∙ seen_more seen p (lines_from Blank (suc n) (suc p) (split 10 s)))
    right_line (Err c) f = rw (none_marked (table seen)) (ih n m (Faulty c) seen u ∙ ap (with_seen seen) (line_faulty c n m (split 10 s)))

right_last : Right []
unfolding fed ended answered split pointers_from
right_last n m x seen u = rw (line_feed x n m []) (right_end n m x seen u (phase_end m x) (end_fair m x))

right_step : (b : ℕ) (s : List ℕ) (t : Bool) → eqb b 10 ≡ t → Right s → Right (b ∷ s)
unfolding fed step in_line split
right_step b s true e ih n m x seen u = rw (e, line_feed x n m (split 10 s)) (right_line n m x seen u s ih (phase_end m x) (end_fair m x))
right_step b s false e ih n m x seen u = rw (e, line_byte x n m b (split 10 s)) (ih n m (next_phase x b) seen u)

right : (s : List ℕ) → Right s
right [] = right_last
right (b ∷ s) = right_step b s (eqb b 10) refl (right s)

-- the whole of it
pub read_whole : (s : List ℕ) → answered (ended (fed first_reader s)) ≡ index_answer s
unfolding first_reader index_answer index_pointers lines capped
read_whole s =
    rw (← table_none) (right s 1 0 Blank [] tt ∙ seen_none (lines_from Blank 1 0 (split 10 s)) ∙ ap answer_of (lines_whole 1 0 10 s))

-- in any pieces
pub read_pieces : (l : List (List ℕ)) → answered (ended (fed_all first_reader l)) ≡ index_answer (joined l)
read_pieces l = rw (fed_joined first_reader l) (read_whole (joined l))
