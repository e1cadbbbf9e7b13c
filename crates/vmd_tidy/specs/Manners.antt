-- Tidying in the two manners of reading (02 i): a strict answer that is no refusal is the lenient one, and so is what is left
-- in output and scratch; and what is written is accepted in the strict manner.
use Rattle.std.specs.Prelude.{ℕ, refl, List, [], ◌∷◌, length}
use Rattle.vmd_format.specs.Answer.{Answer, and_then, map_answer, left}
use Rattle.vmd_format.specs.Read.{Manner, strict, lenient}
use Rattle.vmd_format.specs.Take.{Take}
use Rattle.vmd_laws.specs.SavingLaws.{Accepted, Reads}
use Rattle.vmd_laws.specs.MannerLaws.{Stricter, of_reading}
use Rattle.vmd_laws.specs.RefusalLaws.{Refuses}
use Rattle.vmd_tracks.specs.Tidy.{tidy}
use Rattle.vmd_tidy.specs.Tidied.{tidied_file, fitting, tidying, report, cleared, tidied_answer, tidied_output, tidied_scratch, longest, size_answer, size_scratch}
use Rattle.vmd_tidy.specs.Tidying.{tidied, Enough, tidied_back_in, tidy_refuses}

-- the call: its answer, and what it leaves in output and scratch
pub stricter_tidy : (s scratch out : List ℕ)
    → Stricter {L = List ℕ × List ℕ} (out, scratch) (tidied_answer strict s scratch out) (tidied_output strict s scratch out, tidied_scratch strict s scratch out)
    (tidied_answer lenient s scratch out) (tidied_output lenient s scratch out, tidied_scratch lenient s scratch out)
unfolding tidying and_then map_answer left cleared
stricter_tidy s scratch out =
    of_reading (out, scratch) (λ x. map_answer report (taken x)) (λ x. (left out (map_answer tidied_file (taken x)), cleared scratch (taken x)))
    (λ k. refl) (λ k. refl) s
  where
    taken : Answer Take → Answer Take
    taken x = and_then x (fitting (length scratch) (length out))

-- the size call
pub stricter_tidy_size : (s scratch : List ℕ)
    → Stricter scratch (size_answer strict s scratch) (size_scratch strict s scratch) (size_answer lenient s scratch) (size_scratch lenient s scratch)
unfolding tidying and_then map_answer cleared
stricter_tidy_size s scratch =
    of_reading scratch (λ x. map_answer report (taken x)) (λ x. cleared scratch (taken x)) (λ k. refl) (λ k. refl) s
  where
    taken : Answer Take → Answer Take
    taken x = and_then x (fitting (length scratch) longest)

-- in whichever manner the file was read
pub tidied_strict : (m : Manner) {s : List ℕ} {t : Take} (scratch out : List ℕ) → Accepted m s t → Enough t scratch out
    → Reads strict (tidied m s scratch out) (tidy t)
tidied_strict m = tidied_back_in m strict

-- with which numbers it is refused
pub tidy_numbers : (s : List ℕ) (places room : ℕ) → Refuses (1 ∷ 2 ∷ 3 ∷ 13 ∷ []) (tidying lenient s places room)
unfolding lenient
tidy_numbers s places room = tidy_refuses lenient s places room

pub strict_tidy_numbers : (s : List ℕ) (places room : ℕ) → Refuses (1 ∷ 2 ∷ 17 ∷ 16 ∷ 3 ∷ 13 ∷ []) (tidying strict s places room)
unfolding strict
strict_tidy_numbers s places room = tidy_refuses strict s places room
