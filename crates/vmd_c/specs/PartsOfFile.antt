-- The parts that the calls for names and interpolation bytes give lie in the file, and are those bytes: vmd_places shows it of
-- each part (proofs/Fields, field-cuts and ik-name-cuts) and vmd_header of the model name (proofs/Laws, model-cuts).
use Rattle.std.specs.Prelude.{ℕ, List, [], ◌∷◌, length, get_or, drop}
use Rattle.vmd_format.specs.Fetch.{model_of}
use Rattle.vmd_format.specs.Join.{joined_model}
use Rattle.vmd_base.specs.declared.VmdPart.{VmdPart}
use Rattle.vmd_places.specs.Parts.{file_part, Cuts}
use Rattle.vmd_header.proofs.Laws.{model_cuts}
use Rattle.vmd_slots.specs.Meaning.{part_words, Names, joined_words, file_of}

-- a slot names what its part does
pub named : {s l : List ℕ} {p : VmdPart} → Cuts s p l → Names s (part_words p) l
named c = record { inside = c.inside; named = c.named }

-- the last two of a joined name's three numbers, in the file that the first says
pub joined_model_part : (s t : List ℕ)
    → Names (file_of s t (get_or (joined_words (model_of s) (model_of t)) 0 0)) (drop 1 (joined_words (model_of s) (model_of t)))
    (joined_model (model_of s) (model_of t))
unfolding joined_words joined_model file_of file_part
joined_model_part s t = go (model_of s) (model_of t) (named (model_cuts s)) (named (model_cuts t))
  where
    go : (m n : List ℕ) → Names s (part_words (file_part 30 (length m))) m → Names t (part_words (file_part 30 (length n))) n
        → Names (file_of s t (get_or (joined_words m n) 0 0)) (drop 1 (joined_words m n)) (joined_model m n)
    go [] [] f g = f
    go [] (b ∷ n) f g = g
    go (a ∷ m) n f g = f
