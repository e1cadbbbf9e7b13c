-- Which refusals the calls for parts give, and in which order: 02 a), "14 .. tested after 1 and 2, nothing written". In every
-- manner of reading.
use Rattle.std.specs.Prelude.{ℕ, ◌≡◌, Bool, List, [], ◌∷◌, ◌++◌}
use Rattle.vmd_format.specs.Refusal.{Refusal, parts_do_not_fit}
use Rattle.vmd_format.specs.Answer.{Answer, declined, given, and_then, map_answer, unless}
use Rattle.vmd_format.specs.Read.{Manner, strict, lenient}
use Rattle.vmd_format.specs.Take.{Take, read_take}
use Rattle.vmd_format.specs.Parts.{Parts}
use Rattle.vmd_laws.specs.RefusalLaws.{here, reading_numbers, Refuses, among_back, reading_refuses, refuses_more, refuses_then, refuses_unless}
use Rattle.vmd_take_parts.specs.Split.{parts_of_take, parts_fit, split, split_answer, split_sizes, parts_left}

-- ---- which refusals

refuses_map : {A B : Type 0} (l : List ℕ) (f : A → B) (x : Answer A) → Refuses l x → Refuses l (map_answer f x)
unfolding map_answer
refuses_map l f (declined k) h = h
refuses_map l f (given a) h = tt

module _ (m : Manner) where
  -- the file is read, and then one test gives 14
  read_then : {A : Type 0} (s : List ℕ) (fits : Take → Bool) (f : Take → A)
      → Refuses (reading_numbers m ++ (14 ∷ [])) (and_then (read_take m s) λ t. unless (fits t) parts_do_not_fit (given (f t)))
  read_then s fits f =
      let l = reading_numbers m ++ (14 ∷ []) in
      refuses_then l (read_take m s) _ (refuses_more (reading_numbers m) (14 ∷ []) (read_take m s) (reading_refuses m s)) λ t.
      refuses_unless l _ parts_do_not_fit _ (among_back (reading_numbers m) (14 ∷ []) here) tt

  -- "tested after 1 and 2", and what the manner names
  pub split_refuses : (s : List ℕ) (lent : Parts) → Refuses (reading_numbers m ++ (14 ∷ [])) (split m s lent)
  unfolding split
  split_refuses s lent = read_then s (λ t. parts_fit (parts_of_take t) lent) parts_of_take

  pub split_answer_refuses : (s : List ℕ) (lent : Parts) → Refuses (reading_numbers m ++ (14 ∷ [])) (split_answer m s lent)
  unfolding split_answer
  split_answer_refuses s lent = refuses_map _ _ (split m s lent) (split_refuses s lent)

  pub split_sizes_refuses : (s : List ℕ) → Refuses (reading_numbers m ++ (14 ∷ [])) (split_sizes m s)
  unfolding split_sizes
  split_sizes_refuses s = read_then s _ _

  -- ---- in which order

  -- a file that is not read is refused with that number, whatever the buffers
  pub split_reads_first : (s : List ℕ) (lent : Parts) (k : Refusal) → read_take m s ≡ declined k
      → (split m s lent ≡ declined k) × (split_sizes m s ≡ declined k)
  unfolding split split_sizes and_then
  split_reads_first s lent k e = (rw e, rw e)

  -- one that is read is refused just where a buffer is too short or a table too long
  pub split_then_fits : (s : List ℕ) (lent : Parts) (t : Take) → read_take m s ≡ given t
      → split m s lent ≡ unless (parts_fit (parts_of_take t) lent) parts_do_not_fit (given (parts_of_take t))
  unfolding split and_then
  split_then_fits s lent t e = rw e

  -- "nothing written"
  pub refused_keeps : (s : List ℕ) (lent : Parts) (k : Refusal) → split m s lent ≡ declined k
      → parts_left lent (split m s lent) ≡ lent
  unfolding parts_left
  refused_keeps s lent k e = rw e

-- 1, 2 and 14 in the lenient manner, as document 01 reads; 17 and 16 too in the strict one
pub split_numbers : (s : List ℕ) (lent : Parts) → Refuses (1 ∷ 2 ∷ 14 ∷ []) (split_answer lenient s lent)
unfolding lenient
split_numbers s lent = split_answer_refuses lenient s lent

pub split_sizes_numbers : (s : List ℕ) → Refuses (1 ∷ 2 ∷ 14 ∷ []) (split_sizes lenient s)
unfolding lenient
split_sizes_numbers s = split_sizes_refuses lenient s

pub strict_split_numbers : (s : List ℕ) (lent : Parts) → Refuses (1 ∷ 2 ∷ 17 ∷ 16 ∷ 14 ∷ []) (split_answer strict s lent)
unfolding strict
strict_split_numbers s lent = split_answer_refuses strict s lent

pub strict_split_sizes_numbers : (s : List ℕ) → Refuses (1 ∷ 2 ∷ 17 ∷ 16 ∷ 14 ∷ []) (split_sizes strict s)
unfolding strict
strict_split_sizes_numbers s = split_sizes_refuses strict s
