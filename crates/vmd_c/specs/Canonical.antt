-- What the calls write is canonical (02 l): "Every export, join, tidied, excerpted and built file", in every manner m of reading
-- what is saved, and every manner n of asking; what the converter writes is not, at place 21.
use Rattle.std.specs.Prelude.{ℕ, ◌≤◌, ◌≡◌, true, false, List, length}
use Rattle.std.proofs.Math.Path.{ap}
use Rattle.std.proofs.Common.{sym, ◌∙◌, arith}
use Rattle.vmd_format.specs.Answer.{Answer, given, and_then}
use Rattle.vmd_format.specs.Read.{Manner}
use Rattle.vmd_format.specs.Take.{Take, older, edition, write_edition, write_take}
use Rattle.vmd_format.specs.Join.{older_file, join}
use Rattle.vmd_format.specs.Parts.{Parts, Check, passes, fails, take_of_parts, parts_check, built, build}
use Rattle.vmd_laws.specs.AnswerLaws.{left_is}
use Rattle.vmd_laws.specs.JoinLaws.{Fit}
use Rattle.vmd_laws.specs.OlderLaws.{older_is}
use Rattle.vmd_laws.specs.SavingLaws.{Accepted, Reads}
use Rattle.vmd_export.specs.Demand3.{exported, joined, Enough, exported_is, joined_is, export_back_in, join_back_in}
use Rattle.vmd_export.proofs.Older.{converted, OlderEnough, converted_back_in}
use Rattle.vmd_parts.specs.Building.{Slices, Typed, parts, built_answer, built_file, build_back}
use Rattle.vmd_tidy.specs.Tidied.{tidied_file}
use Rattle.vmd_tidy.specs.Tidying as tidying
use Rattle.vmd_excerpt.proofs.Excerpting as excerpting
use Rattle.vmd_form.specs.Canonical.{canonical, at_place, first_change}
use Rattle.vmd_form.proofs.CanonicalLaws.{canonical_written, older_change, older_not_canonical, converted_older}

same_file : {s u : List ℕ} → given s ≡ given u → s ≡ u
same_file e = cc

-- a file that a call left, and that is written of its take
left_canonical : (n : Manner) {x : Answer (List ℕ)} {t : Take} → Reads n x t → x ≡ given (write_take t) → and_then x (canonical n) ≡ given true
unfolding and_then
left_canonical n {x} {t} r e =
    let f : r.file ≡ write_take t = same_file (sym r.is ∙ e) in
    rw r.is ((canonical_written n r.accepted).1 f)

module _ (m n : Manner) where
  pub exported_canonical : {s : List ℕ} {t : Take} (out : List ℕ) → Accepted m s t → Enough t out → and_then (exported m s out) (canonical n) ≡ given true
  exported_canonical out h k = left_canonical n (export_back_in m n out h k) (exported_is m out h k)

  pub joined_canonical : {a b : List ℕ} {t u : Take} (out : List ℕ) → Accepted m a t → Accepted m b u → Fit t u → Enough (join t u) out
      → and_then (joined m a b out) (canonical n) ≡ given true
  joined_canonical {a} {b} out h k f l = left_canonical n (join_back_in m n out h k f l) (joined_is m a b out h.reads k.reads f l)

  pub tidied_canonical : {s : List ℕ} {t : Take} (scratch out : List ℕ) → Accepted m s t → tidying.Enough t scratch out
      → and_then (tidying.tidied m s scratch out) (canonical n) ≡ given true
  unfolding tidied_file
  tidied_canonical scratch out h k = left_canonical n (tidying.tidied_back_in m n scratch out h k) (tidying.tidied_is m scratch out h k)

  pub excerpted_canonical : (first last : ℕ) {s : List ℕ} {t : Take} (out : List ℕ) → first ≤ last → Accepted m s t → excerpting.Enough first last t out
      → and_then (excerpting.excerpted m first last s out) (canonical n) ≡ given true
  excerpted_canonical first last out f h k = left_canonical n (excerpting.excerpted_back_in m n first last out f h k) (excerpting.excerpted_is m first last out f h k)

  -- "a converted one is not"
  pub converted_not_canonical : {s : List ℕ} {t : Take} (out : List ℕ) → Accepted m s t → length t.model ≤ 10 → OlderEnough t out
      → (and_then (converted m s out) (canonical n) ≡ given false) × (and_then (converted m s out) (first_change n) ≡ given (at_place 21))
  unfolding and_then
  converted_not_canonical {s} {t} out h l k =
      let r = converted_back_in m h l out k n in
      let f : r.file ≡ write_edition older t = same_file (sym (left_is r.file out (older_file m s) r.is) ∙ older_is m h l) in
      let e : edition r.file ≡ given older = ap edition f ∙ converted_older t in
      (rw r.is (older_not_canonical n r.accepted e), rw r.is (older_change n r.accepted e))

-- what is built is the file of the take that the parts mean
build_written : (p : Parts) (s : List ℕ) → build p ≡ given s → s ≡ write_take (take_of_parts p)
unfolding build built
build_written p s e = go (parts_check p) e
  where
    go : (c : Check) → built c (take_of_parts p) ≡ given s → s ≡ write_take (take_of_parts p)
    go passes e = sym (same_file e)
    go (fails k) e = let z : ◌≡◌ {A = ℕ} 0 1 = cc in absurd (omega arith)

-- a call that builds and is not refused
pub built_canonical : (n : Manner) (x : Slices) (out : List ℕ) → Typed x → (k : ℕ) → built_answer x out ≡ given k
    → and_then (built_file x out) (canonical n) ≡ given true
built_canonical n x out h k e =
    let r = build_back n x out h k e in
    left_canonical n r (r.is ∙ ap given (build_written (parts x) r.file (left_is r.file out (build (parts x)) r.is)))
