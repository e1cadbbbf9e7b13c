-- Excerpts in the two manners of reading (02 i): a strict answer that is no refusal is the lenient one, and so is what is left in
-- the output; and what is written is accepted in the strict manner.
use Rattle.std.specs.Prelude.{ℕ, ◌≤◌, refl, Bool, true, false, List, [], ◌∷◌, leb, length}
use Rattle.vmd_format.specs.Refusal.{first_above_last}
use Rattle.vmd_format.specs.Answer.{Answer, declined, map_answer, unless, fitted, left}
use Rattle.vmd_format.specs.Read.{Manner, strict, lenient}
use Rattle.vmd_format.specs.Take.{Take, read_take, write_take}
use Rattle.vmd_laws.specs.SavingLaws.{Accepted, Reads}
use Rattle.vmd_laws.specs.MannerLaws.{Stricter, same, of_reading}
use Rattle.vmd_laws.specs.RefusalLaws.{Refuses}
use Rattle.vmd_framed.specs.Excerpt.{excerpt}
use Rattle.vmd_excerpt.specs.Excerpted.{excerpt_file, excerpted_answer, excerpted_output, excerpt_size}
use Rattle.vmd_excerpt.proofs.Excerpting.{excerpted, Enough, excerpted_back_in, excerpt_is_in_order, excerpt_refuses}

-- the call: its answer, and what it leaves in the output
pub stricter_excerpt : (first last : ℕ) (s out : List ℕ)
    → Stricter out (excerpted_answer strict first last s out) (excerpted_output strict first last s out)
    (excerpted_answer lenient first last s out) (excerpted_output lenient first last s out)
unfolding excerpt_file unless map_answer fitted left
stricter_excerpt first last s out = go (leb first last)
  where
    file : Bool → Answer Take → Answer (List ℕ)
    file b x = fitted (length out) (unless b first_above_last (map_answer (λ t. write_take (excerpt first last t)) x))

    go : (b : Bool) → Stricter out (map_answer length (file b (read_take strict s))) (left out (file b (read_take strict s)))
        (map_answer length (file b (read_take lenient s))) (left out (file b (read_take lenient s)))
    go true = of_reading out (λ x. map_answer length (file true x)) (λ x. left out (file true x)) (λ k. refl) (λ k. refl) s
    go false = same (declined first_above_last) out

-- the size call, which is lent nothing
pub stricter_excerpt_size : (first last : ℕ) (s : List ℕ)
    → Stricter {L = Unit {0}} tt (excerpt_size strict first last s) tt (excerpt_size lenient first last s) tt
unfolding excerpt_file unless map_answer fitted
stricter_excerpt_size first last s = go (leb first last)
  where
    size : Bool → Answer Take → Answer ℕ
    size b x = map_answer length (fitted 18446744073709551615 (unless b first_above_last (map_answer (λ t. write_take (excerpt first last t)) x)))

    go : (b : Bool) → Stricter {L = Unit {0}} tt (size b (read_take strict s)) tt (size b (read_take lenient s)) tt
    go true = of_reading tt (size true) (λ x. tt) (λ k. refl) (λ k. refl) s
    go false = same (declined first_above_last) tt

-- in whichever manner the file was read
pub excerpted_strict : (m : Manner) (first last : ℕ) {s : List ℕ} {t : Take} (out : List ℕ) → first ≤ last → Accepted m s t → Enough first last t out
    → Reads strict (excerpted m first last s out) (excerpt first last t)
excerpted_strict m = excerpted_back_in m strict

-- with which numbers it is refused
pub excerpt_numbers : (first last : ℕ) (s out : List ℕ) → Refuses (18 ∷ 1 ∷ 2 ∷ 13 ∷ []) (excerpted_answer lenient first last s out)
unfolding lenient
excerpt_numbers first last s out = rw (excerpt_is_in_order lenient first last s out) (excerpt_refuses lenient (length out) first last s)

pub strict_excerpt_numbers : (first last : ℕ) (s out : List ℕ) → Refuses (18 ∷ 1 ∷ 2 ∷ 17 ∷ 16 ∷ 13 ∷ []) (excerpted_answer strict first last s out)
unfolding strict
strict_excerpt_numbers first last s out = rw (excerpt_is_in_order strict first last s out) (excerpt_refuses strict (length out) first last s)
