-- The laws of the converter (02 e), of what the call answers and leaves in its output, in every manner of reading.
use Prim.Native.Nat.{ℕ, ◌+◌, ◌≤◌, ◌<◌}
use Rattle.std.specs.Prelude.{◌≡◌, ◌↔◌, Bool, true, false, List, leb, take, drop}
use Rattle.std.proofs.Math.Path.{refl, sym}
use Rattle.std.proofs.Common.{ap, ◌∙◌, arith}
use borrow.Author.Tests.{lt-leb, leb-false}
use Rattle.std.proofs.Math.ListN.{length}
use Rattle.vmd_format.specs.Refusal.{output_too_short, model_name_too_long}
use Rattle.vmd_format.specs.Answer.{Answer, declined, given, and_then, map_answer, unless, within, file_left}
use Rattle.vmd_laws.specs.AnswerLaws.{left_whole}
use Rattle.vmd_format.specs.Read.{Manner}
use Rattle.vmd_format.specs.Take.{Take, older, edition, write_header, write_edition, widened}
use Rattle.vmd_format.specs.Join.{older_file}
use Rattle.vmd_laws.specs.SavingLaws.{Accepted, Reads}
use Rattle.vmd_laws.specs.OlderLaws.{header_first, same_sections, ten_shorter, widened_written, older_is, older_fits, older_accepted}
use Rattle.vmd_export.specs.Saved.{older_answer, older_output}
use Rattle.vmd_export.specs.Refusals.{older_in_order}
use Rattle.vmd_export.proofs.RefusalLaws.{older_is_in_order}
use Rattle.vmd_export.specs.Demand3.{exported, Enough, exported_is}

-- the file that the call leaves in an output
abbrev pub converted : Manner → List ℕ → List ℕ → Answer (List ℕ)
converted m s out = file_left (older_answer m s out) (older_output m s out)

-- an output that is not shorter than it
abbrev pub OlderEnough : Take → List ℕ → Type 0
OlderEnough t out = length (write_edition older t) ≤ length out

module _ (m : Manner) {s : List ℕ} {t : Take} (h : Accepted m s t) where
  -- "15 the model name is over 10 bytes": exactly there, whatever the output; so an older file is never 15
  pub too_long : (out : List ℕ) → (older_answer m s out ≡ declined model_name_too_long) ↔ (10 < length t.model)
  unfolding older_in_order and_then unless within
  too_long out = (
    λ e. one (leb (length t.model) 10) refl (rw (older_is_in_order m s out, h.reads) at e),
    λ n. rw (older_is_in_order m s out, h.reads, lt-leb (length t.model) 10 n),
  )
    where
      size : ℕ
      size = length (write_edition older t)

      two : (b : Bool) → unless b output_too_short (given size) ≡ declined model_name_too_long → ⊥
      two true e = let z : ◌≡◌ {A = ℕ} 0 1 = cc in omega arith
      two false e = let z : ◌≡◌ {A = ℕ} 0 1 = cc in omega arith

      one : (b : Bool) → leb (length t.model) 10 ≡ b
          → unless b model_name_too_long (within (length out) size) ≡ declined model_name_too_long → 10 < length t.model
      one true q e = absurd (two (leb size (length out)) e)
      one false q e = leb-false (length t.model) 10 q

  pub older_never : (out : List ℕ) → edition s ≡ given older → older_answer m s out ≡ declined model_name_too_long → ⊥
  older_never out e q = omega (arith, (too_long out).0 q, older_fits m h e)

  module _ (short : length t.model ≤ 10) (out : List ℕ) (n : OlderEnough t out) where
    converted_is : converted m s out ≡ given (write_edition older t)
    converted_is = left_whole (write_edition older t) out (older_file m s) (older_is m h short) n

    -- what it writes is accepted and reads back as the take, in every manner
    pub converted_back_in : (any : Manner) → Reads any (converted m s out) t
    converted_back_in any = record { file = write_edition older t; is = converted_is; accepted = older_accepted m h any short }

    pub converted_back : Reads m (converted m s out) t
    converted_back = converted_back_in m

    -- "with zeros after the magic and the name"
    pub converted_header : map_answer (take 40) (converted m s out) ≡ given (write_header older t.model)
    unfolding map_answer
    converted_header = rw converted_is (ap given (header_first older t))

    -- it exports as the file exports, and widened it is the export
    module _ (other : List ℕ) (k : Enough t other) where
      pub converted_exports : (third : List ℕ) → Enough t third → and_then (converted m s out) (λ f. exported m f third) ≡ exported m s other
      unfolding and_then
      converted_exports third l = rw converted_is (exported_is m third (older_accepted m h m short) l ∙ sym (exported_is m other h k))

      pub converted_widened : map_answer widened (converted m s out) ≡ exported m s other
      unfolding map_answer
      converted_widened = rw converted_is (ap given (widened_written t short) ∙ sym (exported_is m other h k))

      -- "10 bytes shorter than the export", "then the export's bytes from its bone count on"
      pub converted_shorter : map_answer (λ f. 10 + length f) (converted m s out) ≡ map_answer length (exported m s other)
      unfolding map_answer
      converted_shorter = rw (converted_is, exported_is m other h k) (ap given (ten_shorter t))

      pub converted_sections : map_answer (drop 40) (converted m s out) ≡ map_answer (drop 50) (exported m s other)
      unfolding map_answer
      converted_sections = rw (converted_is, exported_is m other h k) (ap given (same_sections t))
