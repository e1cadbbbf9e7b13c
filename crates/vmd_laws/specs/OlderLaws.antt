-- The laws of the older edition's writer (02 e), in every manner of reading: what it writes, and that this reads back.
use Rattle.std.specs.Prelude.{ℕ, ◌+◌, ◌≤◌, ◌≡◌, length, take, drop}
use Rattle.std.proofs.Common.{sym, ◌∙◌, arith, take_at, drop_at, drop-drop}
use mathlib.Core.List.{List, ◌++◌, append_assoc}
use borrow.Author.Tests.{le-leb}
use Rattle.vmd_format.specs.Bytes.{padded}
use Rattle.vmd_laws.specs.BytesLaws.{padded_length, padded_more}
use Rattle.vmd_format.specs.Answer.{given, and_then, unless}
use Rattle.vmd_format.specs.Read.{Manner}
use Rattle.vmd_format.specs.Take.{Take, Edition, newer, older, magic_of, model_width, edition, write_header, write_sections, write_edition, write_take, widened}
use Rattle.vmd_laws.specs.TakeLaws.{begun, edition_small, edition_back}
use Rattle.vmd_format.specs.Join.{edition_take, older_file, file_length}
use Rattle.vmd_laws.specs.Lengths.{header_length, edition_length}
use Rattle.vmd_laws.specs.SavingLaws.{Accepted, well_formed}
use Rattle.vmd_laws.specs.EditionLaws.{model_fits, take_model}

-- ---- the bytes

-- the sections begin after the field of the model name, whose bytes are the padded name
module _ (e : Edition) (t : Take) where
  abbrev name : List ℕ
  name = padded (model_width e) t.model

  name_at : drop 30 (write_edition e t) ≡ name ++ write_sections t
  unfolding write_edition write_header
  name_at = rw append_assoc (begun e (name ++ write_sections t)).after

  sections_at : drop (30 + model_width e) (write_edition e t) ≡ write_sections t
  sections_at = rw (← drop-drop (model_width e) 30 (write_edition e t), name_at) (drop_at name (write_sections t) (model_width e) (padded_length (model_width e) t.model))

-- "then the export's bytes from its bone count on"
pub same_sections : (t : Take) → drop 40 (write_edition older t) ≡ drop 50 (write_take t)
unfolding write_take
same_sections t = sections_at older t ∙ sym (sections_at newer t)

-- "with zeros after the magic and the name"
pub header_first : (e : Edition) (t : Take) → take (30 + model_width e) (write_edition e t) ≡ write_header e t.model
unfolding write_edition
header_first e t = take_at (write_header e t.model) (write_sections t) (30 + model_width e) (header_length e t.model)

-- "10 bytes shorter than the export"
pub ten_shorter : (t : Take) → 10 + length (write_edition older t) ≡ length (write_take t)
unfolding write_take file_length
ten_shorter t = omega (arith, edition_length older t, edition_length newer t)

-- widened it is the export
pub widened_written : (t : Take) → length t.model ≤ 10 → widened (write_edition older t) ≡ write_take t
unfolding widened write_take write_edition write_header magic_of
widened_written t h =
    rw (
      name_at older t,
      take_at (padded 10 t.model) (write_sections t) 10 (padded_length 10 t.model),
      sections_at older t,
      padded_more 10 10 t.model h,
    )
    (simp append_assoc)

-- ---- the answer

module _ (m : Manner) {s : List ℕ} {t : Take} (h : Accepted m s t) where
  pub older_is : length t.model ≤ 10 → older_file m s ≡ given (write_edition older t)
  unfolding older_file edition_take and_then unless
  older_is n = rw (h.reads, le-leb (length t.model) 10 n)

  -- the name of a file that is itself of the older edition
  pub older_fits : edition s ≡ given older → length t.model ≤ 10
  older_fits e = rw (take_model m s t h.reads) (model_fits s older e)

  -- what it writes is accepted in every manner, and reads back as the take
  pub older_accepted : (any : Manner) → length t.model ≤ 10 → Accepted any (write_edition older t) t
  older_accepted any n =
      let w = well_formed m h in
      record {
        bytes = edition_small older t w;
        reads = edition_back any older t w (record { short = n; none_zero = w.model.none_zero; small = w.model.small });
      }
