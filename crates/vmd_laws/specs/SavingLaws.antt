-- The laws of saving and joining files (demand 3), in every manner of reading.
use Rattle.std.specs.Prelude.{ℕ, ◌↔◌, Bool, List}
use Rattle.std.proofs.Math.Path.{◌≡◌, refl, ap, subst}
use Rattle.std.proofs.Common.{sym, ◌∙◌}
use Rattle.std.proofs.Math.Bool.{true, false}
use native.Mathlib.Omega.{arith}
use Rattle.vmd_laws.specs.BytesLaws.{Bytes}
use Rattle.vmd_format.specs.Refusal.{count_too_large}
use Rattle.vmd_format.specs.Answer.{Answer, declined, given, and_then, map_answer, unless}
use Rattle.vmd_format.specs.Read.{Step, refused, got, Manner}
use Rattle.vmd_laws.specs.ReadLaws.{Always}
use Rattle.vmd_format.specs.Take.{Take, File, take_of, read_file, answer, read_take, write_take}
use Rattle.vmd_laws.specs.TakeLaws.{WellFormed, take_small, take_back, file_fair}
use Rattle.vmd_format.specs.Join.{export_file, join, fit_together, join_takes, join_files}
use Rattle.vmd_laws.specs.JoinLaws.{Fit, Fit₃, empty, join_well_formed, fit_test, test_fit, join_empty_left, join_empty_right, join_assoc, fit_left, fit_right, fit_first, fit_last, fit_then, fit_before}

-- Accepted (document 01's term): "The reader accepts a file when opening it, with scratch enough, gives no refusal". It
-- reads as the take t, its records and its model name.
pub record Accepted (m : Manner) (s : List ℕ) (t : Take) : Type 0 where
  pub bytes : Bytes s
  pub reads : read_take m s ≡ given t

-- what a call left in an output is a file, and it is accepted and reads as t
pub record Reads (m : Manner) (x : Answer (List ℕ)) (t : Take) : Type 0 where
  pub file : List ℕ
  pub is : x ≡ given file
  pub accepted : Accepted m file t

module _ (m : Manner) where
  -- accepted implies well formed
  pub well_formed : {s : List ℕ} {t : Take} → Accepted m s t → WellFormed t
  unfolding read_take answer
  well_formed {s} {t} h = go (read_file m s) h.reads (file_fair m s h.bytes)
    where
      go : (x : Step File) → answer x ≡ given t → Always (λ f r. WellFormed (take_of f)) x → WellFormed t
      go (refused k) e a = let z : ◌≡◌ {A = ℕ} 0 1 = cc in absurd (omega arith)
      go (got f r) e a = subst WellFormed (cc) a

  -- the file of a well-formed take is accepted, and reads as that take
  pub written_accepted : (t : Take) → WellFormed t → Accepted m (write_take t) t
  written_accepted t w = record { bytes = take_small t w; reads = take_back m t w }

  pub export_is : {s : List ℕ} {t : Take} → Accepted m s t → export_file m s ≡ given (write_take t)
  unfolding export_file map_answer
  export_is h = ap (map_answer write_take) h.reads

  pub join_is : (a b : List ℕ) {t u : Take} → read_take m a ≡ given t → read_take m b ≡ given u → Fit t u
      → join_files m a b ≡ given (write_take (join t u))
  unfolding join_files and_then join_takes unless
  join_is a b h k f = rw (h, k, fit_test f)

  write_injective : {t u : Take} → WellFormed t → WellFormed u → write_take t ≡ write_take u → t ≡ u
  write_injective {t} {u} w v e = let p = take_back m t w in let q = take_back m u v in let r = ap (read_take m) e in cc

  -- "two have equal exports exactly when their records and model names are equal"
  pub exports_equal : {s r : List ℕ} {t u : Take} → Accepted m s t → Accepted m r u → (export_file m s ≡ export_file m r) ↔ (t ≡ u)
  exports_equal {s} {r} {t} {u} h k =
      let p = export_is h in
      let q = export_is k in
      (λ e. write_injective (well_formed h) (well_formed k) (cc), λ e. cc)

  -- "and the export of each is accepted and reads back as its records and its model name"
  pub export_reads_back : {s : List ℕ} {t : Take} → Accepted m s t → and_then (export_file m s) (read_take m) ≡ given t
  unfolding and_then
  export_reads_back {s} {t} h = rw (export_is h) (take_back m t (well_formed h))

  -- "The join of any two of them whose counts added up fit 32 bits is accepted and reads back as the records and model name
  -- that document 01 gives it"
  pub join_reads_back : {a b : List ℕ} {t u : Take} → Accepted m a t → Accepted m b u → Fit t u
      → and_then (join_files m a b) (read_take m) ≡ given (join t u)
  unfolding and_then
  join_reads_back {a} {b} {t} {u} h k f =
      rw (join_is a b h.reads k.reads f) (take_back m (join t u) (join_well_formed f (well_formed h) (well_formed k)))

  -- what is written as a join reads as the join
  pub join_given : {a b j : List ℕ} {t u : Take} → Accepted m a t → Accepted m b u → join_files m a b ≡ given j → read_take m j ≡ given (join t u)
  unfolding join_files and_then join_takes unless
  join_given {a} {b} {j} {t} {u} h k e = go (fit_together t u) refl (rw (h.reads, k.reads) at e)
    where
      go : (x : Bool) → fit_together t u ≡ x → unless x count_too_large (given (write_take (join t u))) ≡ given j → read_take m j ≡ given (join t u)
      go true f w =
          let q : write_take (join t u) ≡ j = cc in
          rw (← q) (take_back m (join t u) (join_well_formed (test_fit t u f) (well_formed h) (well_formed k)))
      go false f w = let z : ◌≡◌ {A = ℕ} 0 1 = cc in absurd (omega arith)

  -- "joining any of them, on either side, with an accepted take of no records and no model name gives the other's export"
  pub join_unit : {e s : List ℕ} {t : Take} → Accepted m e empty → Accepted m s t
      → (join_files m e s ≡ export_file m s) × (join_files m s e ≡ export_file m s)
  join_unit {e} {s} {t} h k = (
    join_is e s h.reads k.reads (fit_left (well_formed k)) ∙ ap (λ u. given (write_take u)) (join_empty_left t) ∙ sym (export_is k),
    join_is s e k.reads h.reads (fit_right (well_formed k)) ∙ ap (λ u. given (write_take u)) (join_empty_right t) ∙ sym (export_is k),
  )

  -- "for any three of them whose counts added up fit 32 bits, joining the first two and then the third gives the same bytes
  -- as joining the first with the join of the other two": both are written
  pub join_associative : {a b c : List ℕ} {t u v : Take} → Accepted m a t → Accepted m b u → Accepted m c v → Fit₃ t u v
      → (and_then (join_files m a b) (λ ab. join_files m ab c) ≡ given (write_take (join (join t u) v)))
      × (and_then (join_files m b c) (λ bc. join_files m a bc) ≡ given (write_take (join (join t u) v)))
  unfolding and_then
  join_associative {a} {b} {c} {t} {u} {v} h k l f =
      let w = join_well_formed (fit_first f) (well_formed h) (well_formed k) in
      let x = join_well_formed (fit_last f) (well_formed k) (well_formed l) in (
        rw (join_is a b h.reads k.reads (fit_first f)) (join_is (write_take (join t u)) c (take_back m (join t u) w) l.reads (fit_then f)),
        rw (join_is b c k.reads l.reads (fit_last f))
            (join_is a (write_take (join u v)) h.reads (take_back m (join u v) x) (fit_before f) ∙ ap (λ y. given (write_take y)) (sym (join_assoc t u v))),
      )

  -- 11 exactly where a sum passes 4,294,967,295
  pub join_too_large : {a b : List ℕ} {t u : Take} → Accepted m a t → Accepted m b u
      → (join_files m a b ≡ declined count_too_large) ↔ (Fit t u → ⊥)
  unfolding join_files and_then join_takes unless
  join_too_large {a} {b} {t} {u} h k = (left, right)
    where
      left : join_files m a b ≡ declined count_too_large → Fit t u → ⊥
      left e f = let p = join_is a b h.reads k.reads f in let z : ◌≡◌ {A = ℕ} 0 1 = cc in omega arith

      go : (x : Bool) → fit_together t u ≡ x → (Fit t u → ⊥) → unless x count_too_large (given (write_take (join t u))) ≡ declined count_too_large
      go true e f = absurd (f (test_fit t u e))
      go false e f = refl

      right : (Fit t u → ⊥) → join_files m a b ≡ declined count_too_large
      right f = rw (h.reads, k.reads) (go (fit_together t u) refl f)
