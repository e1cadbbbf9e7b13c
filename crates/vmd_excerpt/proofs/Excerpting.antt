-- The laws of an excerpt (02 j), of what the call answers and leaves in the output, in every manner of reading.
use Prim.Native.Nat.{ℕ, ◌+◌, ◌≤◌, ◌<◌, min}
use Rattle.std.specs.Prelude.{◌≡◌, Bool, true, leb}
use Rattle.std.proofs.Math.Path.{refl, ap, sym}
use Rattle.std.proofs.Common.{◌∙◌, arith}
use Rattle.std.proofs.Math.Bool.{false}
use mathlib.Core.List.{List, [], ◌∷◌, ◌++◌}
use borrow.Author.Tests.{le-leb, lt-leb, leb-true, leb-false}
use Rattle.std.proofs.Math.ListN.{length}
use Rattle.vmd_format.specs.Refusal.{first_above_last, output_too_short}
use Rattle.vmd_format.specs.Answer.{Answer, declined, given, and_then, map_answer, unless, fitted, left, within, file_left}
use Rattle.vmd_format.specs.Read.{Manner}
use Rattle.vmd_format.specs.Take.{Take, older, edition, read_take, write_take, widened}
use Rattle.vmd_format.specs.Opening.{ik_total}
use Rattle.vmd_format.specs.Join.{join}
use Rattle.vmd_laws.specs.AnswerLaws.{left_whole, fitted_length}
use Rattle.vmd_laws.specs.EditionLaws.{take_widened}
use Rattle.vmd_laws.specs.JoinLaws.{Fit, join_well_formed}
use Rattle.vmd_laws.specs.Lengths.{export_length}
use Rattle.vmd_laws.specs.RefusalLaws.{here, there, reading_numbers, Refuses, among_back, reading_refuses, refuses_more, refuses_then, refuses_unless}
use Rattle.vmd_laws.specs.SavingLaws.{Accepted, Reads, well_formed, written_accepted}
use Rattle.vmd_laws.specs.TakeLaws.{take_back}
use Rattle.vmd_export.specs.Demand3.{exported, exported_is, joined, joined_is}
use Rattle.vmd_export.specs.Demand3 as saving
use Rattle.vmd_framed.specs.Excerpt.{excerpt}
use Rattle.vmd_excerpt.specs.Excerpted.{excerpt_file, excerpted_answer, excerpted_output, excerpt_size}
use Rattle.vmd_framed.proofs.ExcerptLaws.{name_only, excerpt_join, excerpt_fit, excerpt_well_formed, excerpt_whole, excerpt_twice, excerpt_none, never_longer}

-- ---- definitions

-- the excerpt that the call leaves in an output
abbrev pub excerpted : Manner → ℕ → ℕ → List ℕ → List ℕ → Answer (List ℕ)
excerpted m first last s out = file_left (excerpted_answer m first last s out) (excerpted_output m first last s out)

-- an output that is not shorter than the excerpt of a take
abbrev pub Enough : ℕ → ℕ → Take → List ℕ → Type 0
Enough first last t out = length (write_take (excerpt first last t)) ≤ length out

-- first and last are compared, then the file is read, then the output's length is tested
unfoldable pub excerpt_in_order : Manner → ℕ → ℕ → ℕ → List ℕ → Answer ℕ
excerpt_in_order m limit first last s =
    unless (leb first last) first_above_last (and_then (read_take m s) λ t. within limit (length (write_take (excerpt first last t))))

module _ (m : Manner) where
  -- ---- what the call leaves is the excerpt

  file_is : (first last : ℕ) (s : List ℕ) {t : Take} → first ≤ last → read_take m s ≡ given t → excerpt_file m first last s ≡ given (write_take (excerpt first last t))
  unfolding excerpt_file unless map_answer
  file_is first last s f h = rw (le-leb first last f, h)

  excerpted_reads : (first last : ℕ) (s : List ℕ) {t : Take} (out : List ℕ) → first ≤ last → read_take m s ≡ given t → Enough first last t out
      → excerpted m first last s out ≡ given (write_take (excerpt first last t))
  excerpted_reads first last s {t} out f h n =
      left_whole (write_take (excerpt first last t)) out (excerpt_file m first last s) (file_is first last s f h) n

  pub excerpted_is : (first last : ℕ) {s : List ℕ} {t : Take} (out : List ℕ) → first ≤ last → Accepted m s t → Enough first last t out
      → excerpted m first last s out ≡ given (write_take (excerpt first last t))
  excerpted_is first last {s} out f h n = excerpted_reads first last s out f h.reads n

  -- it is accepted and reads back as the excerpt, in every manner
  pub excerpted_back_in : (any : Manner) (first last : ℕ) {s : List ℕ} {t : Take} (out : List ℕ) → first ≤ last → Accepted m s t → Enough first last t out
      → Reads any (excerpted m first last s out) (excerpt first last t)
  excerpted_back_in any first last {s} {t} out f h n = record {
    file = write_take (excerpt first last t);
    is = excerpted_is first last out f h n;
    accepted = written_accepted any (excerpt first last t) (excerpt_well_formed first last (well_formed m h));
  }

  pub excerpted_back : (first last : ℕ) {s : List ℕ} {t : Take} (out : List ℕ) → first ≤ last → Accepted m s t → Enough first last t out
      → Reads m (excerpted m first last s out) (excerpt first last t)
  excerpted_back = excerpted_back_in m

  back : (first last : ℕ) {s : List ℕ} {t : Take} → Accepted m s t → read_take m (write_take (excerpt first last t)) ≡ given (excerpt first last t)
  back first last {s} {t} h = take_back m (excerpt first last t) (excerpt_well_formed first last (well_formed m h))

  above_declined : (first last : ℕ) (s out : List ℕ) → last < first → excerpted m first last s out ≡ declined first_above_last
  unfolding excerpt_file unless map_answer fitted file_left
  above_declined first last s out h = rw (lt-leb first last h)

  -- "The excerpt of a join, where its counts fit 32 bits, equals the join of the excerpts.": both are 18 where the first frame is
  -- above the last
  pub excerpted_join : (first last : ℕ) {a b : List ℕ} {t u : Take} (ab o₁ o₂ o₃ cd : List ℕ) → Accepted m a t → Accepted m b u → Fit t u
      → saving.Enough (join t u) ab → Enough first last (join t u) o₁ → Enough first last t o₂ → Enough first last u o₃
      → saving.Enough (join (excerpt first last t) (excerpt first last u)) cd
      → and_then (joined m a b ab) (λ f. excerpted m first last f o₁)
      ≡ and_then (excerpted m first last a o₂) (λ x. and_then (excerpted m first last b o₃) (λ y. joined m x y cd))
  unfolding and_then
  excerpted_join first last {a} {b} {t} {u} ab o₁ o₂ o₃ cd h k w n₁ n₂ n₃ n₄ n₅ = rw (joined_is m a b ab h.reads k.reads w n₁) (go (leb first last) refl)
    where
      joint : List ℕ
      joint = write_take (join t u)

      go : (x : Bool) → leb first last ≡ x
          → excerpted m first last joint o₁ ≡ and_then (excerpted m first last a o₂) (λ x. and_then (excerpted m first last b o₃) (λ y. joined m x y cd))
      go true e =
          let f = leb-true first last e in
          rw (excerpted_is first last o₂ f h n₃, excerpted_is first last o₃ f k n₄)
          (excerpted_reads first last joint o₁ f (take_back m (join t u) (join_well_formed w (well_formed m h) (well_formed m k))) n₂
          ∙ ap (λ x. given (write_take x)) (excerpt_join first last t u)
          ∙ sym (joined_is m (write_take (excerpt first last t)) (write_take (excerpt first last u)) cd (back first last h) (back first last k) (excerpt_fit first last w) n₅))
      go false e = let f = leb-false first last e in rw (above_declined first last a o₂ f) (above_declined first last joint o₁ f)

  -- "An excerpt from 0 to 4,294,967,295 is the export."
  pub excerpted_whole : {s : List ℕ} {t : Take} (out other : List ℕ) → Accepted m s t → Enough 0 4294967295 t out → saving.Enough t other
      → excerpted m 0 4294967295 s out ≡ exported m s other
  excerpted_whole {s} {t} out other h n k =
      excerpted_is 0 4294967295 out (omega arith) h n ∙ ap (λ x. given (write_take x)) (excerpt_whole (well_formed m h)) ∙ sym (exported_is m other h k)

  -- an excerpt from g to k of an excerpt from f to l: the excerpt from f + g to the smaller of l and f + k
  pub excerpted_twice : (f l g k : ℕ) {s : List ℕ} {t : Take} (o₁ o₂ o₃ : List ℕ) → g ≤ k → f + g ≤ l → Accepted m s t
      → Enough f l t o₁ → Enough g k (excerpt f l t) o₂ → Enough (f + g) (min l (f + k)) t o₃
      → and_then (excerpted m f l s o₁) (λ x. excerpted m g k x o₂) ≡ excerpted m (f + g) (min l (f + k)) s o₃
  unfolding and_then
  excerpted_twice f l g k {s} {t} o₁ o₂ o₃ q r h n₁ n₂ n₃ =
      rw (excerpted_is f l o₁ (omega arith) h n₁)
      (excerpted_reads g k (write_take (excerpt f l t)) o₂ q (back f l h) n₂ ∙ ap (λ x. given (write_take x)) (excerpt_twice f l g k t)
      ∙ sym (excerpted_is (f + g) (min l (f + k)) o₃ (omega arith) h n₃))

  -- and where f + g is above l, a file of the model name and no records
  pub excerpted_nothing : (f l g k : ℕ) {s : List ℕ} {t : Take} (o₁ o₂ : List ℕ) → f ≤ l → g ≤ k → l < f + g → Accepted m s t
      → Enough f l t o₁ → Enough g k (excerpt f l t) o₂
      → and_then (excerpted m f l s o₁) (λ x. excerpted m g k x o₂) ≡ given (write_take (name_only t.model))
  unfolding and_then
  excerpted_nothing f l g k {s} {t} o₁ o₂ p q r h n₁ n₂ =
      rw (excerpted_is f l o₁ p h n₁)
      (excerpted_reads g k (write_take (excerpt f l t)) o₂ q (back f l h) n₂
      ∙ ap (λ x. given (write_take x)) (excerpt_twice f l g k t ∙ excerpt_none (f + g) (min l (f + k)) (omega arith) t))

  -- an output of the export's length is never refused with 13
  pub export_enough : (first last : ℕ) (t : Take) (out : List ℕ) → length (write_take t) ≤ length out → Enough first last t out
  export_enough first last t out h = omega (arith, never_longer first last t)

  -- The size call answers the length where that has 64 bits, else 13.
  pub size_fits : (first last : ℕ) {s : List ℕ} {t : Take} → first ≤ last → Accepted m s t → length (write_take (excerpt first last t)) < 18446744073709551616
      → excerpt_size m first last s ≡ given (length (write_take (excerpt first last t)))
  unfolding map_answer fitted unless
  size_fits first last {s} {t} f h n = rw (file_is first last s f h.reads, le-leb (length (write_take (excerpt first last t))) 18446744073709551615 (omega arith))

  pub size_over : (first last : ℕ) {s : List ℕ} {t : Take} → first ≤ last → Accepted m s t → 18446744073709551616 ≤ length (write_take (excerpt first last t))
      → excerpt_size m first last s ≡ declined output_too_short
  unfolding map_answer fitted unless
  size_over first last {s} {t} f h n = rw (file_is first last s f h.reads, lt-leb (length (write_take (excerpt first last t))) 18446744073709551615 (omega arith))

  -- 02 e): of an older file it is that of its widened one
  pub older_excerpt : (first last : ℕ) (s : List ℕ) → edition s ≡ given older → excerpt_file m first last (widened s) ≡ excerpt_file m first last s
  unfolding excerpt_file
  older_excerpt first last s e = rw (take_widened s e m)

  -- ---- refusals

  -- "18 the first frame is above the last, tested before the file is read": whatever bytes are lent
  pub above_refused : (first last : ℕ) (s out : List ℕ) → last < first
      → (excerpted_answer m first last s out ≡ declined first_above_last) × (excerpted_output m first last s out ≡ out) × (excerpt_size m first last s ≡ declined first_above_last)
  unfolding excerpt_file unless map_answer fitted left
  above_refused first last s out h = let e = lt-leb first last h in (rw e, rw e, rw e)

  in_order : (limit first last : ℕ) (s : List ℕ) → map_answer length (fitted limit (excerpt_file m first last s)) ≡ excerpt_in_order m limit first last s
  unfolding excerpt_file excerpt_in_order
  in_order limit first last s = one (leb first last)
    where
      two : (x : Answer Take) → map_answer length (fitted limit (map_answer (λ t. write_take (excerpt first last t)) x))
          ≡ and_then x (λ t. within limit (length (write_take (excerpt first last t))))
      two (declined k) = unfold map_answer fitted and_then in refl
      two (given t) = unfold map_answer and_then in (unfold map_answer in fitted_length limit (write_take (excerpt first last t)))

      one : (b : Bool) → map_answer length (fitted limit (unless b first_above_last (map_answer (λ t. write_take (excerpt first last t)) (read_take m s))))
          ≡ unless b first_above_last (and_then (read_take m s) λ t. within limit (length (write_take (excerpt first last t))))
      one true = unfold unless in two (read_take m s)
      one false = unfold unless map_answer fitted in refl

  pub excerpt_is_in_order : (first last : ℕ) (s out : List ℕ) → excerpted_answer m first last s out ≡ excerpt_in_order m (length out) first last s
  excerpt_is_in_order first last s out = in_order (length out) first last s

  pub excerpt_size_is_in_order : (first last : ℕ) (s : List ℕ) → excerpt_size m first last s ≡ excerpt_in_order m 18446744073709551615 first last s
  excerpt_size_is_in_order first last s = in_order 18446744073709551615 first last s

  -- 18, 1, 2, 13, and what the manner names
  pub excerpt_refuses : (limit first last : ℕ) (s : List ℕ) → Refuses (18 ∷ reading_numbers m ++ (13 ∷ [])) (excerpt_in_order m limit first last s)
  unfolding excerpt_in_order within
  excerpt_refuses limit first last s =
      let l : List ℕ = 18 ∷ reading_numbers m ++ (13 ∷ []) in
      refuses_unless l (leb first last) first_above_last _ here
      (refuses_then l (read_take m s) _ (later (read_take m s) (refuses_more (reading_numbers m) (13 ∷ []) (read_take m s) (reading_refuses m s))) λ t.
      refuses_unless l _ output_too_short _ (there (among_back (reading_numbers m) (13 ∷ []) here)) tt)
    where
      later : (x : Answer Take) → Refuses (reading_numbers m ++ (13 ∷ [])) x → Refuses (18 ∷ reading_numbers m ++ (13 ∷ [])) x
      later (declined k) h = there h
      later (given t) h = tt

-- the file of a model name and no records has 74 bytes
pub nothing_length : (n : List ℕ) → length (write_take (name_only n)) ≡ 74
unfolding name_only
nothing_length n = export_length (name_only n) ∙ (unfold ik_total in refl)
