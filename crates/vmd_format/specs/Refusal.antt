-- The refusals of document 01, "What is turned down", and of the requests of 02, and their numbers. Definitions only.
use Rattle.std.specs.Prelude.{ℕ}

pub data Refusal : Type 0 where
  -- file ends early
  file_ends_early : Refusal
  -- magic differs
  magic_differs : Refusal
  -- scratch has fewer places than property frames; since 02 f), than a sixteenth of them, rounded up; 02 g): tidying, than the
  -- largest section has records
  scratch_too_short : Refusal
  -- record or IK number at or above the count, or its place outside the file
  outside : Refusal
  -- name table ends wrong, record bytes no whole number of records, properties cut or with bytes over
  parts_not_whole : Refusal
  -- model name over 20 bytes, table name over 15, or a zero byte in one
  name_unfit : Refusal
  -- name bytes not good
  name_not_good : Refusal
  -- camera, light, bone or morph float not finite
  not_finite : Refusal
  -- self-shadow distance not finite, or mode above 2
  self_shadow_unfit : Refusal
  -- bone or morph column lengths disagree
  columns_disagree : Refusal
  -- a section count above 4,294,967,295
  count_too_large : Refusal
  -- name index at or above the table's length
  name_index_too_large : Refusal
  -- output shorter than the export; since 02 e), than the file to be written
  output_too_short : Refusal
  -- 02 a): a table, column or record buffer is too short or a name table passes 4,294,967,295 bytes
  parts_do_not_fit : Refusal
  -- 02 e): the model name is over 10 bytes
  model_name_too_long : Refusal
  -- 02 i): bytes after the last property frame, or after its count of 0
  bytes_over : Refusal
  -- 02 i): an oversized camera, light or self-shadow count
  count_oversized : Refusal
  -- 02 j): the first frame is above the last
  first_above_last : Refusal

abbrev pub number : Refusal → ℕ
number file_ends_early = 1
number magic_differs = 2
number scratch_too_short = 3
number outside = 4
number parts_not_whole = 5
number name_unfit = 6
number name_not_good = 7
number not_finite = 8
number self_shadow_unfit = 9
number columns_disagree = 10
number count_too_large = 11
number name_index_too_large = 12
number output_too_short = 13
number parts_do_not_fit = 14
number model_name_too_long = 15
number bytes_over = 16
number count_oversized = 17
number first_above_last = 18
