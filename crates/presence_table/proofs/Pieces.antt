-- Laws of reading an index piece by piece, at any reader whose bytes are known. Assumes nothing.
use Rattle.std.proofs.Common.{◌≡◌, ℕ, List, [], None, Some, IfSome, refl, sym, subst, ap, ◌∙◌, take}
use Rattle.std.specs.Prelude.{⊤}
use Rattle.std.specs.declared.option.Option.{Option}
use Rattle.std.specs.Io.KnownBytes.{Consumes, IsAtEnd}
use Rattle.vmd_index.specs.Steps.{first_reader, fed}
use Rattle.vmd_index.proofs.Reading.{fed_append}
use Rattle.vmd_index.specs.declared.IndexReader.{IndexReader}

-- what is left of the input, read by the reader, makes what all of it makes
unfoldable pub ReadSoFar : Option (List ℕ) → Option (List ℕ) → IndexReader → Type 0
ReadSoFar None left r = ⊤
ReadSoFar (Some xs) None r = ⊥
ReadSoFar (Some xs) (Some ys) r = fed r ys ≡ fed first_reader xs

pub nothing_read : (all : Option (List ℕ)) → ReadSoFar all all first_reader
unfolding ReadSoFar
nothing_read None = tt
nothing_read (Some xs) = refl

pub read_more : (all left now : Option (List ℕ)) (r : IndexReader) (bs : List ℕ) → ReadSoFar all left r → Consumes left now bs → ReadSoFar all now (fed r bs)
unfolding ReadSoFar
read_more None left now r bs p q = tt
read_more (Some xs) None now r bs p q = absurd p
read_more (Some xs) (Some ys) None r bs p q = absurd q
read_more (Some xs) (Some ys) (Some zs) r bs p q = sym (fed_append r bs zs) ∙ sym (ap (fed r) q) ∙ p

-- a read that gave no byte
pub read_none : (all left now : Option (List ℕ)) (r : IndexReader) (n : ℕ) (piece : List ℕ) → n ≡ 0 → ReadSoFar all left r → Consumes left now (take n piece)
    → ReadSoFar all now r
unfolding fed
read_none all left now r n piece e p q = read_more all left now r [] p (subst (λ k. Consumes left now (take k piece)) e q)

pub all_read : (all left : Option (List ℕ)) (r : IndexReader) → ReadSoFar all left r → IsAtEnd left → IfSome all (λ xs. r ≡ fed first_reader xs)
unfolding ReadSoFar fed
all_read None left r p q = tt
all_read (Some xs) None r p q = absurd p
all_read (Some xs) (Some ys) r p q = sym (ap (fed r) q) ∙ p
