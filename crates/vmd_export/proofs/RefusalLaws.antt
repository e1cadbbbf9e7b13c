-- Which refusals export, joining, the converter and their size calls give, and in which order: the laws.
use Prim.Native.Nat.{ℕ}
use Rattle.std.specs.Prelude.{◌≡◌, Bool, leb}
use Rattle.std.proofs.Math.Path.{refl}
use Rattle.std.proofs.Math.Bool.{true, false}
use mathlib.Core.List.{List, [], ◌∷◌, ◌++◌}
use Rattle.std.proofs.Math.ListN.{length}
use Rattle.vmd_format.specs.Refusal.{output_too_short, count_too_large, model_name_too_long}
use Rattle.vmd_format.specs.Answer.{Answer, declined, given, and_then, map_answer, unless, fitted, within}
use Rattle.vmd_laws.specs.AnswerLaws.{fitted_length}
use Rattle.vmd_format.specs.Read.{Manner, strict, lenient}
use Rattle.vmd_format.specs.Take.{Take, older, read_take, write_edition, write_take}
use Rattle.vmd_format.specs.Join.{export_file, edition_take, older_file, join, fit_together, join_takes, join_files}
use Rattle.vmd_laws.specs.RefusalLaws.{here, there, reading_numbers, Refuses, among_back, reading_refuses, refuses_more, refuses_then, refuses_unless}
use Rattle.vmd_export.specs.Saved.{exported_answer, older_answer, joined_answer, export_size, older_size, join_size}
use Rattle.vmd_export.specs.Refusals.{export_in_order, join_in_order, older_in_order}

module _ (m : Manner) (limit : ℕ) where
  export_order : (s : List ℕ) → map_answer length (fitted limit (export_file m s)) ≡ export_in_order m limit s
  unfolding export_file export_in_order map_answer fitted and_then
  export_order s = go (read_take m s)
    where
      go : (x : Answer Take) → map_answer length (fitted limit (map_answer write_take x)) ≡ and_then x (λ t. within limit (length (write_take t)))
      go (declined k) = refl
      go (given t) = fitted_length limit (write_take t)

  older_order : (s : List ℕ) → map_answer length (fitted limit (older_file m s)) ≡ older_in_order m limit s
  unfolding older_file edition_take older_in_order map_answer fitted and_then unless
  older_order s = go (read_take m s)
    where
      two : (t : Take) (b : Bool)
          → map_answer length (fitted limit (unless b model_name_too_long (given (write_edition older t))))
          ≡ unless b model_name_too_long (within limit (length (write_edition older t)))
      two t true = fitted_length limit (write_edition older t)
      two t false = refl

      go : (x : Answer Take)
          → map_answer length (fitted limit (and_then x (edition_take older)))
          ≡ and_then x (λ t. unless (leb (length t.model) 10) model_name_too_long (within limit (length (write_edition older t))))
      go (declined k) = refl
      go (given t) = two t (leb (length t.model) 10)

  join_order : (a b : List ℕ) → map_answer length (fitted limit (join_files m a b)) ≡ join_in_order m limit a b
  unfolding join_files join_takes join_in_order map_answer fitted and_then unless
  join_order a b = one (read_take m a) (read_take m b)
    where
      three : (t u : Take) (f : Bool)
          → map_answer length (fitted limit (unless f count_too_large (given (write_take (join t u)))))
          ≡ unless f count_too_large (within limit (length (write_take (join t u))))
      three t u true = fitted_length limit (write_take (join t u))
      three t u false = refl

      one : (x y : Answer Take)
          → map_answer length (fitted limit (and_then x λ t. and_then y λ u. join_takes t u))
          ≡ and_then x (λ t. and_then y λ u. unless (fit_together t u) count_too_large (within limit (length (write_take (join t u)))))
      one (declined k) y = refl
      one (given t) (declined k) = refl
      one (given t) (given u) = three t u (fit_together t u)

-- ---- which refusals

module _ (m : Manner) (limit : ℕ) where
  -- "Export: 1, 2, 13", and what the manner names
  pub export_refuses : (s : List ℕ) → Refuses (reading_numbers m ++ (13 ∷ [])) (export_in_order m limit s)
  unfolding export_in_order within
  export_refuses s =
      let l = reading_numbers m ++ (13 ∷ []) in
      refuses_then l (read_take m s) _ (refuses_more (reading_numbers m) (13 ∷ []) (read_take m s) (reading_refuses m s)) λ t.
      refuses_unless l _ output_too_short _ (among_back (reading_numbers m) (13 ∷ []) here) tt

  -- 1, 2, 15, 13, and what the manner names
  pub older_refuses : (s : List ℕ) → Refuses (reading_numbers m ++ (15 ∷ 13 ∷ [])) (older_in_order m limit s)
  unfolding older_in_order within
  older_refuses s =
      let r : List ℕ = 15 ∷ 13 ∷ [] in
      let l = reading_numbers m ++ r in
      refuses_then l (read_take m s) _ (refuses_more (reading_numbers m) r (read_take m s) (reading_refuses m s)) λ t.
      refuses_unless l _ model_name_too_long _ (among_back (reading_numbers m) r here)
      (refuses_unless l _ output_too_short _ (among_back (reading_numbers m) r (there here)) tt)

  -- "Joining: first file, second file, 11, 13", and what the manner names
  pub join_refuses : (a b : List ℕ) → Refuses (reading_numbers m ++ (11 ∷ 13 ∷ [])) (join_in_order m limit a b)
  unfolding join_in_order within
  join_refuses a b =
      let r : List ℕ = 11 ∷ 13 ∷ [] in
      let l = reading_numbers m ++ r in
      refuses_then l (read_take m a) _ (refuses_more (reading_numbers m) r (read_take m a) (reading_refuses m a)) λ t.
      refuses_then l (read_take m b) _ (refuses_more (reading_numbers m) r (read_take m b) (reading_refuses m b)) λ u.
      refuses_unless l _ count_too_large _ (among_back (reading_numbers m) r here)
      (refuses_unless l _ output_too_short _ (among_back (reading_numbers m) r (there here)) tt)

-- ---- the calls

-- in which order, by the answer of each call
pub export_is_in_order : (m : Manner) (s out : List ℕ) → exported_answer m s out ≡ export_in_order m (length out) s
export_is_in_order m s out = export_order m (length out) s

pub export_size_is_in_order : (m : Manner) (s : List ℕ) → export_size m s ≡ export_in_order m 18446744073709551615 s
export_size_is_in_order m s = export_order m 18446744073709551615 s

pub older_is_in_order : (m : Manner) (s out : List ℕ) → older_answer m s out ≡ older_in_order m (length out) s
older_is_in_order m s out = older_order m (length out) s

pub older_size_is_in_order : (m : Manner) (s : List ℕ) → older_size m s ≡ older_in_order m 18446744073709551615 s
older_size_is_in_order m s = older_order m 18446744073709551615 s

pub join_is_in_order : (m : Manner) (a b out : List ℕ) → joined_answer m a b out ≡ join_in_order m (length out) a b
join_is_in_order m a b out = join_order m (length out) a b

pub join_size_is_in_order : (m : Manner) (a b : List ℕ) → join_size m a b ≡ join_in_order m 18446744073709551615 a b
join_size_is_in_order m a b = join_order m 18446744073709551615 a b

-- with which numbers, in the manner of document 01, the lenient one
pub export_numbers : (s out : List ℕ) → Refuses (1 ∷ 2 ∷ 13 ∷ []) (exported_answer lenient s out)
unfolding lenient
export_numbers s out = rw (export_is_in_order lenient s out) (export_refuses lenient (length out) s)

pub older_numbers : (s out : List ℕ) → Refuses (1 ∷ 2 ∷ 15 ∷ 13 ∷ []) (older_answer lenient s out)
unfolding lenient
older_numbers s out = rw (older_is_in_order lenient s out) (older_refuses lenient (length out) s)

pub join_numbers : (a b out : List ℕ) → Refuses (1 ∷ 2 ∷ 11 ∷ 13 ∷ []) (joined_answer lenient a b out)
unfolding lenient
join_numbers a b out = rw (join_is_in_order lenient a b out) (join_refuses lenient (length out) a b)

-- and in the strict one, 02 i)
pub strict_export_numbers : (s out : List ℕ) → Refuses (1 ∷ 2 ∷ 17 ∷ 16 ∷ 13 ∷ []) (exported_answer strict s out)
unfolding strict
strict_export_numbers s out = rw (export_is_in_order strict s out) (export_refuses strict (length out) s)

pub strict_older_numbers : (s out : List ℕ) → Refuses (1 ∷ 2 ∷ 17 ∷ 16 ∷ 15 ∷ 13 ∷ []) (older_answer strict s out)
unfolding strict
strict_older_numbers s out = rw (older_is_in_order strict s out) (older_refuses strict (length out) s)

pub strict_join_numbers : (a b out : List ℕ) → Refuses (1 ∷ 2 ∷ 17 ∷ 16 ∷ 11 ∷ 13 ∷ []) (joined_answer strict a b out)
unfolding strict
strict_join_numbers a b out = rw (join_is_in_order strict a b out) (join_refuses strict (length out) a b)
