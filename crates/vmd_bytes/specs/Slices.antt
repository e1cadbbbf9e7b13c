-- What a write leaves in a slice, and what a read takes from one. Definitions only.
use Rattle.std.specs.Prelude.{ℕ, ◌+◌, List, ◌++◌, length, take, drop}

-- l with the elements from index at on replaced by vs, every other element kept
unfoldable pub splice : List ℕ → ℕ → List ℕ → List ℕ
splice l at vs = take at l ++ vs ++ drop (at + length vs) l

-- the n elements of l from index at on
unfoldable pub run : List ℕ → ℕ → ℕ → List ℕ
run l at n = take n (drop at l)
