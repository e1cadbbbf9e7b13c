-- Demand 3, of what the calls answer and leave in their outputs, in the terms of their contracts and in every manner of reading.
-- `Accepted m s t`: the reader accepts the file s, and its records and model name are those of t; `accepts` and `own_calls` say
-- the same of opening and of the calls for records and names, and `same_records` when two takes are equal. ReadBack has both
-- of a file that export or joining left.
use Rattle.std.specs.Prelude.{ℕ, ◌≤◌, ◌≡◌, ◌↔◌, List, length}
use Rattle.std.proofs.Math.Path.{ap}
use Rattle.std.proofs.Common.{sym, ◌∙◌}
use Rattle.vmd_format.specs.Answer.{Answer, given, and_then, file_left}
use Rattle.vmd_laws.specs.AnswerLaws.{left_whole}
use Rattle.vmd_format.specs.Read.{Manner}
use Rattle.vmd_format.specs.Take.{Take, read_take, write_take}
use Rattle.vmd_laws.specs.TakeLaws.{take_back}
use Rattle.vmd_format.specs.Join.{export_file, join, join_files}
use Rattle.vmd_laws.specs.JoinLaws.{Fit, Fit₃, empty, join_well_formed, join_assoc, fit_first, fit_last, fit_then, fit_before}
use Rattle.vmd_laws.specs.SavingLaws.{Accepted, Reads, well_formed, written_accepted, export_is, join_is, exports_equal, join_unit}
use Rattle.vmd_laws.specs.Alike.{SameRecords, same_records}
use Rattle.vmd_export.specs.Saved.{exported_answer, exported_output, joined_answer, joined_output}

-- ---- definitions

-- the export of s, and the join of s and t, that the calls leave in an output
abbrev pub exported : Manner → List ℕ → List ℕ → Answer (List ℕ)
exported m s out = file_left (exported_answer m s out) (exported_output m s out)

abbrev pub joined : Manner → List ℕ → List ℕ → List ℕ → Answer (List ℕ)
joined m s t out = file_left (joined_answer m s t out) (joined_output m s t out)

-- an output that is not shorter than the export of a take
abbrev pub Enough : Take → List ℕ → Type 0
Enough t out = length (write_take t) ≤ length out

-- ---- what the calls leave is the export and the join

module _ (m : Manner) where
  pub exported_is : {s : List ℕ} {t : Take} (out : List ℕ) → Accepted m s t → Enough t out → exported m s out ≡ given (write_take t)
  exported_is {s} {t} out h n = left_whole (write_take t) out (export_file m s) (export_is m h) n

  pub joined_is : (a b : List ℕ) {t u : Take} (out : List ℕ) → read_take m a ≡ given t → read_take m b ≡ given u → Fit t u → Enough (join t u) out
      → joined m a b out ≡ given (write_take (join t u))
  joined_is a b {t} {u} out h k f n = left_whole (write_take (join t u)) out (join_files m a b) (join_is m a b h k f) n

  -- ---- the demand, clause by clause

  -- "Of all files the reader accepts, with outputs long enough: two have equal exports exactly when their records and model
  -- names are equal"; "equal means in length and in every byte"
  pub two_exports : {s r : List ℕ} {t u : Take} (out other : List ℕ) → Accepted m s t → Accepted m r u → Enough t out → Enough u other
      → (exported m s out ≡ exported m r other) ↔ (t ≡ u)
  two_exports {s} {r} out other h k n l =
      let p = exported_is out h n ∙ sym (export_is m h) in
      let q = exported_is other k l ∙ sym (export_is m k) in
      let e = exports_equal m h k in
      (λ z. e.0 (sym p ∙ z ∙ q), λ z. p ∙ e.1 z ∙ sym q)

  -- the same with "their records and model names are equal" spelled out: section by section, number by number, field by field
  pub two_exports_alike : {s r : List ℕ} {t u : Take} (out other : List ℕ) → Accepted m s t → Accepted m r u → Enough t out → Enough u other
      → (exported m s out ≡ exported m r other) ↔ SameRecords t u
  two_exports_alike {t = t} {u} out other h k n l =
      let e = two_exports out other h k n l in
      let f = same_records t u in
      (λ z. f.0 (e.0 z), λ z. e.1 (f.1 z))

  -- "and the export of each is accepted and reads back as its records and its model name"; it is so in every manner
  pub export_back_in : (any : Manner) {s : List ℕ} {t : Take} (out : List ℕ) → Accepted m s t → Enough t out → Reads any (exported m s out) t
  export_back_in any {s} {t} out h n =
      record { file = write_take t; is = exported_is out h n; accepted = written_accepted any t (well_formed m h) }

  pub export_back : {s : List ℕ} {t : Take} (out : List ℕ) → Accepted m s t → Enough t out → Reads m (exported m s out) t
  export_back = export_back_in m

  -- "The join of any two of them whose counts added up fit 32 bits is accepted and reads back as the records and model name
  -- that document 01 gives it"
  pub join_back_in : (any : Manner) {a b : List ℕ} {t u : Take} (out : List ℕ) → Accepted m a t → Accepted m b u → Fit t u → Enough (join t u) out
      → Reads any (joined m a b out) (join t u)
  join_back_in any {a} {b} {t} {u} out h k f n = record {
    file = write_take (join t u);
    is = joined_is a b out h.reads k.reads f n;
    accepted = written_accepted any (join t u) (join_well_formed f (well_formed m h) (well_formed m k));
  }

  pub join_back : {a b : List ℕ} {t u : Take} (out : List ℕ) → Accepted m a t → Accepted m b u → Fit t u → Enough (join t u) out
      → Reads m (joined m a b out) (join t u)
  join_back = join_back_in m

  -- "joining any of them, on either side, with an accepted take of no records and no model name gives the other's export"
  pub join_with_empty : {e s : List ℕ} {t : Take} (out other : List ℕ) → Accepted m e empty → Accepted m s t → Enough t out → Enough t other
      → (joined m e s out ≡ exported m s other) × (joined m s e out ≡ exported m s other)
  join_with_empty {e} {s} {t} out other h k n l =
      let u = join_unit m h k in
      let x = sym (exported_is other k l) in (
        left_whole (write_take t) out (join_files m e s) (u.0 ∙ export_is m k) n ∙ x,
        left_whole (write_take t) out (join_files m s e) (u.1 ∙ export_is m k) n ∙ x,
      )

  -- "and for any three of them whose counts added up fit 32 bits, joining the first two and then the third gives the same bytes
  -- as joining the first with the join of the other two": both are written
  pub three_joined : {a b c : List ℕ} {t u v : Take} (ab ab_c bc a_bc : List ℕ) → Accepted m a t → Accepted m b u → Accepted m c v
      → Fit₃ t u v → Enough (join t u) ab → Enough (join (join t u) v) ab_c → Enough (join u v) bc → Enough (join t (join u v)) a_bc
      → (and_then (joined m a b ab) (λ s. joined m s c ab_c) ≡ given (write_take (join (join t u) v)))
      × (and_then (joined m b c bc) (λ s. joined m a s a_bc) ≡ given (write_take (join (join t u) v)))
  unfolding and_then
  three_joined {a} {b} {c} {t} {u} {v} ab ab_c bc a_bc h k l f n₁ n₂ n₃ n₄ =
      let w = take_back m (join t u) (join_well_formed (fit_first f) (well_formed m h) (well_formed m k)) in
      let x = take_back m (join u v) (join_well_formed (fit_last f) (well_formed m k) (well_formed m l)) in (
        rw (joined_is a b ab h.reads k.reads (fit_first f) n₁) (joined_is (write_take (join t u)) c ab_c w l.reads (fit_then f) n₂),
        rw (joined_is b c bc k.reads l.reads (fit_last f) n₃)
            (joined_is a (write_take (join u v)) a_bc h.reads x (fit_before f) n₄ ∙ ap (λ y. given (write_take y)) (sym (join_assoc t u v))),
      )
