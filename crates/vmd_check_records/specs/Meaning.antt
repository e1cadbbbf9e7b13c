-- What the count of property frames means. Definitions only.
use Rattle.std.specs.Prelude.{ℕ, Option, Some, None}
use Rattle.vmd_check_records.specs.Stages.{Counted, not_whole, whole}

abbrev pub frames_of : Option ℕ → Counted
frames_of None = not_whole
frames_of (Some n) = whole n
