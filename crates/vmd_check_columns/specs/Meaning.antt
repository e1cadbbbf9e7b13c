-- The floats of a column. Definitions only.
use Rattle.std.specs.Prelude.{List, map, ℕ, Float}
use Rattle.std.specs.Float.{binary32}
use Rattle.std.specs.Float.Ieee.{to_bits}

-- the floats of a column by their bits
abbrev pub bits : List Float → List ℕ
bits l = map (to_bits binary32) l
