-- The laws of tidying (02 g), of what the call answers and leaves in output and scratch, in every manner of reading.
use Prim.Native.Nat.{ℕ, ◌/◌, ◌≤◌, ◌<◌, max}
use Rattle.std.proofs.Math.Path.{◌≡◌, refl, ap, sym}
use Rattle.std.proofs.Common.{◌∙◌, arith}
use Rattle.std.specs.Prelude.{Bool, drop}
use Rattle.std.proofs.Math.Bool.{true, false}
use mathlib.Core.List.{List, [], ◌∷◌, ◌++◌}
use borrow.Author.Tests.{le-leb, lt-leb, leb-true}
use Rattle.std.proofs.Math.ListN.{length}
use Rattle.std.proofs.Math.Dec.{leb}
use Rattle.std.proofs.Math.Seq.{take-append_seam}
use Rattle.vmd_format.specs.Refusal.{scratch_too_short, output_too_short}
use Rattle.vmd_format.specs.Answer.{Answer, declined, given, and_then, map_answer, unless, left, file_left}
use Rattle.vmd_format.specs.Read.{Manner}
use Rattle.vmd_format.specs.Take.{Take, older, edition, read_take, write_take, widened}
use Rattle.vmd_laws.specs.TakeLaws.{take_back}
use Rattle.vmd_format.specs.Opening.{Scan}
use Rattle.vmd_laws.specs.Places.{scan_file}
use Rattle.vmd_laws.specs.ScanLaws.{Inside}
use Rattle.vmd_laws.specs.ExportLaws.{take_in, take_by_places, scan_scanned}
use Rattle.vmd_format.specs.Join.{join}
use Rattle.vmd_laws.specs.JoinLaws.{Fit, join_well_formed}
use Rattle.vmd_laws.specs.SavingLaws.{Accepted, Reads, well_formed, written_accepted}
use Rattle.vmd_laws.specs.EditionLaws.{take_widened}
use Rattle.vmd_laws.specs.RefusalLaws.{here, there, reading_numbers, Refuses, among_back, reading_refuses, refuses_more, refuses_then, refuses_unless}
use Rattle.vmd_export.specs.Demand3.{joined, joined_is}
use Rattle.vmd_export.specs.Demand3 as saving
use Rattle.vmd_keys.specs.Names.{registration_name}
use Rattle.vmd_tracks.specs.Tidy.{tidy}
use Rattle.vmd_tidy.specs.Tidied.{counts_of, largest_section, tidied_file, fitting, tidying, report, tidied_answer, tidied_output, tidied_scratch, cleared, longest, size_answer, size_scratch}
use Rattle.vmd_tidy.specs.TidyLaws.{AllOf, tidy_members, tidy_twice, tidy_join, tidy_well_formed, tidy_fit, Together, tidy_together, never_longer}
use Rattle.vmd_tidy.specs.Stages.{largest_count}
use Rattle.vmd_tidy.specs.StageLaws.{largest_is, fitting_over, fitting_given}

-- ---- definitions

-- the tidied file that the call leaves in an output
abbrev pub tidied : Manner → List ℕ → List ℕ → List ℕ → Answer (List ℕ)
tidied m s scratch out = file_left (map_answer (λ r. r.bytes) (tidied_answer m s scratch out)) (tidied_output m s scratch out)

-- a scratch and an output that are long enough for a take
pub record Enough (t : Take) (scratch out : List ℕ) : Type 0 where
  pub places : largest_section t ≤ length scratch
  pub room : length (tidied_file t) ≤ length out

max_less : {a b c d : ℕ} → a ≤ c → b ≤ d → max a b ≤ max c d
max_less h k = omega arith

largest_less : (t : Take) → largest_section (tidy t) ≤ largest_section t
unfolding largest_section tidy counts_of
largest_less t =
    let k = tidy_together registration_name t in
    max_less (omega (arith, k.bones)) (max_less (omega (arith, k.morphs)) (max_less (omega (arith, k.cameras))
    (max_less (omega (arith, k.lights)) (max_less (omega (arith, k.self_shadows)) (omega (arith, k.properties))))))

max_least : {a b n : ℕ} → a ≤ n → b ≤ n → max a b ≤ n
max_least h k = omega arith

ninth_count : (s : List ℕ) (x : Scan) → Inside s x → largest_count x ≤ length s / 9
unfolding largest_count
ninth_count s x h =
    max_least (omega (arith, h.bones.ends)) (max_least (omega (arith, h.morphs.ends)) (max_least (omega (arith, h.cameras.ends))
    (max_least (omega (arith, h.lights.ends)) (max_least (omega (arith, h.self_shadows.ends)) (omega (arith, h.properties.ends))))))

-- ---- what the call leaves is the tidied take

module _ (m : Manner) where
  tidying_is : (s : List ℕ) {t : Take} (scratch out : List ℕ) → read_take m s ≡ given t → Enough t scratch out
      → tidying m s (length scratch) (length out) ≡ given t
  unfolding tidying and_then
  tidying_is s {t} scratch out h n =
      rw h (fitting_given t (length scratch) (length out) n.places (le-leb (length (tidied_file t)) (length out) n.room))

  tidied_reads : (s : List ℕ) {t : Take} (scratch out : List ℕ) → read_take m s ≡ given t → Enough t scratch out
      → tidied m s scratch out ≡ given (tidied_file t)
  unfolding map_answer left file_left report
  tidied_reads s {t} scratch out h n =
      rw (tidying_is s scratch out h n, take-append_seam (tidied_file t) (drop (length (tidied_file t)) out))

  pub tidied_is : {s : List ℕ} {t : Take} (scratch out : List ℕ) → Accepted m s t → Enough t scratch out
      → tidied m s scratch out ≡ given (tidied_file t)
  tidied_is {s} scratch out h n = tidied_reads s scratch out h.reads n

  -- and only a scratch and an output that are long enough have it tidied
  pub enough_only : {s : List ℕ} {t : Take} (scratch out : List ℕ) → Accepted m s t → tidying m s (length scratch) (length out) ≡ given t → Enough t scratch out
  unfolding tidying and_then fitting unless
  enough_only {s} {t} scratch out h e =
      go (leb (largest_section t) (length scratch)) refl (leb (length (tidied_file t)) (length out)) refl (rw h.reads at e)
    where
      go : (x : Bool) → leb (largest_section t) (length scratch) ≡ x → (y : Bool) → leb (length (tidied_file t)) (length out) ≡ y
          → unless x scratch_too_short (unless y output_too_short (given t)) ≡ given t → Enough t scratch out
      go true p true q e = record { places = leb-true _ _ p; room = leb-true _ _ q }
      go true p false q e = let z : ◌≡◌ {A = ℕ} 0 1 = cc in absurd (omega arith)
      go false p y q e = let z : ◌≡◌ {A = ℕ} 0 1 = cc in absurd (omega arith)

  -- they are long enough for the tidied take too
  pub enough_again : {t : Take} {scratch out : List ℕ} → Enough t scratch out → Enough (tidy t) scratch out
  enough_again {t} {scratch} {out} n =
      let e : tidied_file (tidy t) ≡ tidied_file t = (unfold tidied_file tidy in ap write_take (tidy_twice registration_name t)) in
      record { places = omega (arith, largest_less t, n.places); room = rw e n.room }

  -- as many places as a ninth of the file's bytes are enough, since a record has at least nine
  pub ninth_enough : {s : List ℕ} {t : Take} → Accepted m s t → largest_section t ≤ length s / 9
  unfolding map_answer
  ninth_enough {s} {t} h = go (scan_file m s) refl (sym (take_by_places m s) ∙ h.reads)
    where
      go : (y : Answer Scan) → scan_file m s ≡ y → map_answer (take_in s) y ≡ given t → largest_section t ≤ length s / 9
      go (declined k) p e = let z : ◌≡◌ {A = ℕ} 0 1 = cc in absurd (omega arith)
      go (given x) p e =
          let q : take_in s x ≡ t = cc in
          let y = scan_scanned m s x p in
          rw (← q, largest_is s x y) (ninth_count s x y.inside)

  -- what is written is accepted and reads back as the tidied take, in every manner
  pub tidied_back_in : (any : Manner) {s : List ℕ} {t : Take} (scratch out : List ℕ) → Accepted m s t → Enough t scratch out
      → Reads any (tidied m s scratch out) (tidy t)
  unfolding tidied_file tidy
  tidied_back_in any {s} {t} scratch out h n = record {
    file = tidied_file t;
    is = tidied_is scratch out h n;
    accepted = written_accepted any (tidy t) (tidy_well_formed registration_name (well_formed m h));
  }

  pub tidied_back : {s : List ℕ} {t : Take} (scratch out : List ℕ) → Accepted m s t → Enough t scratch out
      → Reads m (tidied m s scratch out) (tidy t)
  tidied_back = tidied_back_in m

  back : {s : List ℕ} {t : Take} → Accepted m s t → read_take m (tidied_file t) ≡ given (tidy t)
  unfolding tidied_file tidy
  back {s} {t} h = take_back m (tidy t) (tidy_well_formed registration_name (well_formed m h))

  -- 02 k), "A tidied record keeps its full name": what is read back are records of the take, in every field
  pub tidied_members : (any : Manner) {s : List ℕ} {t : Take} (scratch out : List ℕ) → Accepted m s t → Enough t scratch out
      → Reads any (tidied m s scratch out) (tidy t) × AllOf t (tidy t)
  tidied_members any {s} {t} scratch out h n = (tidied_back_in any scratch out h n, (unfold tidy in tidy_members registration_name t))

  -- "In the bytes written, tidying twice is tidying once"
  pub tidied_twice : {s : List ℕ} {t : Take} (scratch out scratch' out' : List ℕ) → Accepted m s t → Enough t scratch out → Enough (tidy t) scratch' out'
      → and_then (tidied m s scratch out) (λ f. tidied m f scratch' out') ≡ tidied m s scratch out
  unfolding and_then
  tidied_twice {s} {t} scratch out scratch' out' h n k =
      rw (tidied_is scratch out h n) (tidied_reads (tidied_file t) scratch' out' (back h) k ∙ (unfold tidied_file tidy in ap (λ u. given (write_take u)) (tidy_twice registration_name t)))

  -- "and tidying a join, where its counts fit 32 bits, equals tidying the join of the two tidied takes"
  pub tidied_join : {a b : List ℕ} {t u : Take} (ab s₁ o₁ s₂ o₂ s₃ o₃ cd s₄ o₄ : List ℕ) → Accepted m a t → Accepted m b u → Fit t u
      → saving.Enough (join t u) ab → Enough (join t u) s₁ o₁
      → Enough t s₂ o₂ → Enough u s₃ o₃ → saving.Enough (join (tidy t) (tidy u)) cd → Enough (join (tidy t) (tidy u)) s₄ o₄
      → and_then (joined m a b ab) (λ f. tidied m f s₁ o₁)
      ≡ and_then (tidied m a s₂ o₂) (λ x. and_then (tidied m b s₃ o₃) (λ y. and_then (joined m x y cd) (λ f. tidied m f s₄ o₄)))
  unfolding and_then
  tidied_join {a} {b} {t} {u} ab s₁ o₁ s₂ o₂ s₃ o₃ cd s₄ o₄ h k f n₁ n₂ n₃ n₄ n₅ n₆ =
      let w = take_back m (join t u) (join_well_formed f (well_formed m h) (well_formed m k)) in
      let x = take_back m (join (tidy t) (tidy u)) (join_well_formed fit (unfold tidy in tidy_well_formed registration_name (well_formed m h)) (unfold tidy in tidy_well_formed registration_name (well_formed m k))) in
      rw (joined_is m a b ab h.reads k.reads f n₁, tidied_is s₂ o₂ h n₃, tidied_is s₃ o₃ k n₄, joined_is m (tidied_file t) (tidied_file u) cd (back h) (back k) fit n₅)
      (tidied_reads (write_take (join t u)) s₁ o₁ w n₂ ∙ ap given same ∙ sym (tidied_reads (write_take (join (tidy t) (tidy u))) s₄ o₄ x n₆))
    where
      fit : Fit (tidy t) (tidy u)
      fit = unfold tidy in tidy_fit registration_name f

      same : tidied_file (join t u) ≡ tidied_file (join (tidy t) (tidy u))
      same = unfold tidied_file tidy in ap write_take (sym (tidy_join registration_name t u))

  -- "For each section, kept and dropped together make up the records read"
  pub kept_dropped : {s : List ℕ} {t : Take} (scratch out : List ℕ) → Accepted m s t → Enough t scratch out
      → (tidied_answer m s scratch out ≡ given (report t)) × Together registration_name t (report t).kept (report t).dropped
  unfolding map_answer report tidy
  kept_dropped {s} {t} scratch out h n = (rw (tidying_is s scratch out h.reads n), tidy_together registration_name t)

  -- "after success these places hold zero and further ones keep their contents"
  pub scratch_cleared : {s : List ℕ} {t : Take} (scratch out : List ℕ) → Accepted m s t → Enough t scratch out
      → tidied_scratch m s scratch out ≡ cleared scratch (given t)
  scratch_cleared {s} scratch out h n = ap (cleared scratch) (tidying_is s scratch out h.reads n)

  -- The size call answers the length and both numbers where the length has 64 bits, else 13; the scratch is left as above.
  pub size_fits : {s : List ℕ} {t : Take} (scratch : List ℕ) → Accepted m s t → largest_section t ≤ length scratch → length (tidied_file t) < 18446744073709551616
      → (size_answer m s scratch ≡ given (report t)) × (size_scratch m s scratch ≡ cleared scratch (given t))
  unfolding tidying and_then map_answer
  size_fits {s} {t} scratch h places room =
      let e = fitting_given t (length scratch) longest places (le-leb (length (tidied_file t)) longest (omega arith)) in (rw (h.reads, e), rw (h.reads, e))

  pub size_over : {s : List ℕ} {t : Take} (scratch : List ℕ) → Accepted m s t → largest_section t ≤ length scratch → 18446744073709551616 ≤ length (tidied_file t)
      → (size_answer m s scratch ≡ declined output_too_short) × (size_scratch m s scratch ≡ scratch)
  unfolding tidying and_then map_answer cleared
  size_over {s} {t} scratch h places room =
      let e = fitting_over t (length scratch) longest places (lt-leb (length (tidied_file t)) longest (omega arith)) in (rw (h.reads, e), rw (h.reads, e))

  -- an output of the export's length is never refused with 13
  pub export_enough : (t : Take) (scratch out : List ℕ) → largest_section t ≤ length scratch → length (write_take t) ≤ length out → Enough t scratch out
  export_enough t scratch out h k = record { places = h; room = omega (arith, never_longer t) }

  -- 02 e): an older file is tidied as its widened one
  pub older_tidied : (s : List ℕ) (places room : ℕ) → edition s ≡ given older → tidying m (widened s) places room ≡ tidying m s places room
  unfolding tidying
  older_tidied s places room e = rw (take_widened s e m)

  -- 1, 2, 3, 13, and what the manner names
  pub tidy_refuses : (s : List ℕ) (places room : ℕ) → Refuses (reading_numbers m ++ (3 ∷ 13 ∷ [])) (tidying m s places room)
  unfolding tidying fitting
  tidy_refuses s places room =
      let r : List ℕ = 3 ∷ 13 ∷ [] in
      let l = reading_numbers m ++ r in
      refuses_then l (read_take m s) _ (refuses_more (reading_numbers m) r (read_take m s) (reading_refuses m s)) λ t.
      refuses_unless l _ scratch_too_short _ (among_back (reading_numbers m) r here)
      (refuses_unless l _ output_too_short _ (among_back (reading_numbers m) r (there here)) tt)
