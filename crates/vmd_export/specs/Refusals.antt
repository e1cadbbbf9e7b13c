-- Which refusals export, joining, the converter and their size calls give, and in which order: document 01, "Export: 1, 2, 13.
-- Joining: first file, second file, 11, 13", and 02 e), 15 "tested just before 13". In every manner of reading; a limit is the
-- length of the output lent, or the largest number. Definitions only.
use Prim.Native.Nat.{ℕ}
use Rattle.std.specs.Prelude.{leb}
use mathlib.Core.List.{List}
use Rattle.std.proofs.Math.ListN.{length}
use Rattle.vmd_format.specs.Refusal.{count_too_large, model_name_too_long}
use Rattle.vmd_format.specs.Answer.{Answer, and_then, unless, within}
use Rattle.vmd_format.specs.Read.{Manner}
use Rattle.vmd_format.specs.Take.{older, read_take, write_edition, write_take}
use Rattle.vmd_format.specs.Join.{join, fit_together}

-- ---- the order

-- the file is read, then the output's length is tested
unfoldable pub export_in_order : Manner → ℕ → List ℕ → Answer ℕ
export_in_order m limit s = and_then (read_take m s) λ t. within limit (length (write_take t))

-- the first file is read, then the second, then the six sums are tested, then the output's length
unfoldable pub join_in_order : Manner → ℕ → List ℕ → List ℕ → Answer ℕ
join_in_order m limit a b =
    and_then (read_take m a) λ t. and_then (read_take m b) λ u.
    unless (fit_together t u) count_too_large (within limit (length (write_take (join t u))))

-- the file is read, then the length of the model name is tested, then the output's
unfoldable pub older_in_order : Manner → ℕ → List ℕ → Answer ℕ
older_in_order m limit s =
    and_then (read_take m s) λ t.
    unless (leb (length t.model) 10) model_name_too_long (within limit (length (write_edition older t)))
