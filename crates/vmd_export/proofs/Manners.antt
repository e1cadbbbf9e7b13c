-- Saving and joining in the two manners of reading (02 i), of what the calls answer and leave in their outputs: demand 3 in
-- each, that a strict answer which is no refusal is the lenient one, and that what is written is accepted in the strict manner.
use Rattle.std.specs.Prelude.{ℕ, ◌≤◌, ◌≡◌, refl, ◌↔◌, List, length}
use Rattle.vmd_format.specs.Answer.{given, and_then, map_answer, fitted, left}
use Rattle.vmd_format.specs.Read.{Manner, strict, lenient}
use Rattle.vmd_format.specs.Take.{Take, older, write_take}
use Rattle.vmd_format.specs.Join.{export_file, edition_take, older_file, join, join_takes, join_files}
use Rattle.vmd_laws.specs.Alike.{SameRecords}
use Rattle.vmd_laws.specs.JoinLaws.{Fit, Fit₃, empty}
use Rattle.vmd_laws.specs.SavingLaws.{Accepted, Reads}
use Rattle.vmd_laws.specs.MannerLaws.{Stricter, of_reading, of_readings}
use Rattle.vmd_export.specs.Saved.{exported_answer, exported_output, older_answer, older_output, joined_answer, joined_output, export_size, older_size, join_size}
use Rattle.vmd_export.specs.Demand3.{exported, joined, Enough, two_exports_alike, export_back, export_back_in, join_back, join_back_in, join_with_empty, three_joined}
use Rattle.vmd_export.proofs.Older.{converted, OlderEnough, converted_back_in}

-- ---- "The laws of saving and joining hold in each manner over the files it accepts."

-- Demand 3 in a manner, clause by clause
pub record Saving (m : Manner) : Type 0 where
  -- "two have equal exports exactly when their records and model names are equal"
  pub equal_exports : {s r : List ℕ} {t u : Take} (out other : List ℕ) → Accepted m s t → Accepted m r u → Enough t out → Enough u other
      → (exported m s out ≡ exported m r other) ↔ SameRecords t u
  -- "the export of each is accepted and reads back as its records and its model name"
  pub export_reads_back : {s : List ℕ} {t : Take} (out : List ℕ) → Accepted m s t → Enough t out → Reads m (exported m s out) t
  -- "The join of any two of them whose counts added up fit 32 bits is accepted and reads back as the records and model name
  -- that document 01 gives it"
  pub join_reads_back : {a b : List ℕ} {t u : Take} (out : List ℕ) → Accepted m a t → Accepted m b u → Fit t u → Enough (join t u) out
      → Reads m (joined m a b out) (join t u)
  -- "joining any of them, on either side, with an accepted take of no records and no model name gives the other's export"
  pub unit : {e s : List ℕ} {t : Take} (out other : List ℕ) → Accepted m e empty → Accepted m s t → Enough t out → Enough t other
      → (joined m e s out ≡ exported m s other) × (joined m s e out ≡ exported m s other)
  -- "joining the first two and then the third gives the same bytes as joining the first with the join of the other two": both
  -- are written
  pub associative : {a b c : List ℕ} {t u v : Take} (ab ab_c bc a_bc : List ℕ) → Accepted m a t → Accepted m b u → Accepted m c v
      → Fit₃ t u v → Enough (join t u) ab → Enough (join (join t u) v) ab_c → Enough (join u v) bc → Enough (join t (join u v)) a_bc
      → (and_then (joined m a b ab) (λ s. joined m s c ab_c) ≡ given (write_take (join (join t u) v)))
      × (and_then (joined m b c bc) (λ s. joined m a s a_bc) ≡ given (write_take (join (join t u) v)))

pub in_each : (m : Manner) → Saving m
in_each m = record {
  equal_exports = two_exports_alike m;
  export_reads_back = export_back m;
  join_reads_back = join_back m;
  unit = join_with_empty m;
  associative = three_joined m;
}

-- of `export_vmd_animation` and `join_vmd_animations`
pub strict_saving : Saving strict
strict_saving = in_each strict

-- of `export_file` and `join_files` in the lenient manner
pub lenient_saving : Saving lenient
lenient_saving = in_each lenient

-- ---- "a strict answer that is no refusal equals it": the answer, and the output

pub stricter_export : (s out : List ℕ)
    → Stricter out (exported_answer strict s out) (exported_output strict s out) (exported_answer lenient s out) (exported_output lenient s out)
unfolding export_file map_answer fitted left
stricter_export s out =
    of_reading out (λ x. map_answer length (fitted (length out) (map_answer write_take x))) (λ x. left out (fitted (length out) (map_answer write_take x)))
    (λ k. refl) (λ k. refl) s

pub stricter_older : (s out : List ℕ)
    → Stricter out (older_answer strict s out) (older_output strict s out) (older_answer lenient s out) (older_output lenient s out)
unfolding older_file and_then map_answer fitted left
stricter_older s out =
    of_reading out (λ x. map_answer length (fitted (length out) (and_then x (edition_take older)))) (λ x. left out (fitted (length out) (and_then x (edition_take older))))
    (λ k. refl) (λ k. refl) s

pub stricter_join : (a b out : List ℕ)
    → Stricter out (joined_answer strict a b out) (joined_output strict a b out) (joined_answer lenient a b out) (joined_output lenient a b out)
unfolding join_files and_then map_answer fitted left
stricter_join a b out =
    of_readings out (λ x y. map_answer length (fitted (length out) (and_then x λ t. and_then y λ u. join_takes t u)))
    (λ x y. left out (fitted (length out) (and_then x λ t. and_then y λ u. join_takes t u)))
    (λ k y. refl) (λ t k. refl) (λ k y. refl) (λ t k. refl) a b

-- the size calls, which are lent nothing
pub stricter_export_size : (s : List ℕ) → Stricter {L = Unit {0}} tt (export_size strict s) tt (export_size lenient s) tt
unfolding export_file map_answer fitted
stricter_export_size s =
    of_reading tt (λ x. map_answer length (fitted 18446744073709551615 (map_answer write_take x))) (λ x. tt) (λ k. refl) (λ k. refl) s

pub stricter_older_size : (s : List ℕ) → Stricter {L = Unit {0}} tt (older_size strict s) tt (older_size lenient s) tt
unfolding older_file and_then map_answer fitted
stricter_older_size s =
    of_reading tt (λ x. map_answer length (fitted 18446744073709551615 (and_then x (edition_take older)))) (λ x. tt) (λ k. refl) (λ k. refl) s

pub stricter_join_size : (a b : List ℕ) → Stricter {L = Unit {0}} tt (join_size strict a b) tt (join_size lenient a b) tt
unfolding join_files and_then map_answer fitted
stricter_join_size a b =
    of_readings tt (λ x y. map_answer length (fitted 18446744073709551615 (and_then x λ t. and_then y λ u. join_takes t u))) (λ x y. tt)
    (λ k y. refl) (λ t k. refl) (λ k y. refl) (λ t k. refl) a b

-- ---- what is written is accepted in the strict manner, in whichever the files were read

module _ (m : Manner) where
  pub export_strict : {s : List ℕ} {t : Take} (out : List ℕ) → Accepted m s t → Enough t out → Reads strict (exported m s out) t
  export_strict = export_back_in m strict

  pub join_strict : {a b : List ℕ} {t u : Take} (out : List ℕ) → Accepted m a t → Accepted m b u → Fit t u → Enough (join t u) out
      → Reads strict (joined m a b out) (join t u)
  join_strict = join_back_in m strict

  pub older_strict : {s : List ℕ} {t : Take} (out : List ℕ) → Accepted m s t → length t.model ≤ 10 → OlderEnough t out
      → Reads strict (converted m s out) t
  older_strict out h k n = converted_back_in m h k out n strict
