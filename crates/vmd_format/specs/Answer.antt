-- What a call answers: a value, or a refusal. Definitions only.
use Rattle.std.specs.Prelude.{ℕ, Bool, true, false, List, ◌++◌, length, take, drop, leb}
use Rattle.vmd_format.specs.Refusal.{Refusal, output_too_short}

pub data Answer (A : Type 0) : Type 0 where
  declined : Refusal → Answer A
  given : A → Answer A

-- the first refusal met is the answer
unfoldable pub and_then : {A B : Type 0} → Answer A → (A → Answer B) → Answer B
and_then (declined k) f = declined k
and_then (given a) f = f a

unfoldable pub map_answer : {A B : Type 0} → (A → B) → Answer A → Answer B
map_answer f (declined k) = declined k
map_answer f (given a) = given (f a)

unfoldable pub unless : {A : Type 0} → Bool → Refusal → Answer A → Answer A
unless true k x = x
unless false k x = declined k

-- "output shorter than the export: 13", since 02 e) "than the file to be written": bytes that are to be written into an output
-- of n bytes
unfoldable pub fitted : ℕ → Answer (List ℕ) → Answer (List ℕ)
fitted n (declined k) = declined k
fitted n (given s) = unless (leb (length s) n) output_too_short (given s)

-- How many bytes, where an output of so many can hold them.
unfoldable pub within : ℕ → ℕ → Answer ℕ
within limit n = unless (leb n limit) output_too_short (given n)

-- The lent output at exit: the bytes "at the front of the output; the rest of the output keeps its contents", and in a
-- refusal all of it.
unfoldable pub left : List ℕ → Answer (List ℕ) → List ℕ
left out (declined k) = out
left out (given s) = s ++ drop (length s) out

-- "Exports and joins are the bytes written into an output long enough, that many and no more; these bytes alone are the file
-- that is read back or joined again": as many bytes of the output at exit as the call answers
unfoldable pub file_left : Answer ℕ → List ℕ → Answer (List ℕ)
file_left a out = map_answer (λ n. take n out) a
