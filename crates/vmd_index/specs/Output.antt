-- What the program says of an index that makes no table. Of one that does it prints the words, "one word a line in decimal"
-- (`number_lines`). Definitions only.
use Rattle.std.specs.Prelude.{ℕ, List, ◌++◌}
use Rattle.vmd_text.specs.Text.{decimal, text}
use Rattle.vmd_index.specs.declared.Cause.{Cause}
use Rattle.vmd_index.specs.declared.Cause.TheVariants.{NoEntry, TooLarge, NotAbove}

unfoldable pub reason : Cause → List ℕ
reason NoEntry = text ": this is no entry of the index\n"
reason TooLarge = text ": the pointer is 11280 or more\n"
reason NotAbove = text ": the pointer is not above the one before\n"

-- for a fault in a line
unfoldable pub message : ℕ → Cause → List ℕ
message line c = text "presence-table: line " ++ decimal line ++ reason c
