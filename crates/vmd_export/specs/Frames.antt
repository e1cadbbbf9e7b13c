-- The smallest and the largest frame of a join (02 c), of what the calls open: the two files, and what joining left in its
-- output. In every manner of reading.
use Rattle.std.specs.Prelude.{ℕ, max, ◌≡◌, List}
use Rattle.vmd_laws.specs.BytesLaws.{Bytes}
use Rattle.vmd_format.specs.Answer.{given}
use Rattle.vmd_laws.specs.AnswerLaws.{left_is}
use Rattle.vmd_format.specs.Read.{Manner}
use Rattle.vmd_format.specs.Opening.{Opening, open_file, joined_smallest}
use Rattle.vmd_format.specs.Join.{join_files}
use Rattle.vmd_laws.specs.FrameLaws.{joined_opened}
use Rattle.vmd_export.specs.Demand3.{joined}

-- "Joining gives the smaller of two, a take without records not counting"; and the larger of the two largest
pub joined_frames : (m : Manner) (a b out file : List ℕ) (p q r : ℕ) (x y z : Opening) → Bytes a → Bytes b
    → open_file m a p ≡ given x → open_file m b q ≡ given y → joined m a b out ≡ given file → open_file m file r ≡ given z
    → (z.smallest_frame ≡ joined_smallest x y) × (z.largest_frame ≡ max x.largest_frame y.largest_frame)
joined_frames m a b out file p q r x y z ba bb ha hb w hz =
    joined_opened m a b file p q r x y z ba bb ha hb (left_is file out (join_files m a b) w) hz
