-- `presence_table::read_input` meets its contract: what is left of the input, read by the reader, makes what all of it makes.
-- Assumes nothing.
use Rattle.std.proofs.Common.{◌≡◌, length}
use Rattle.presence_table.proofs.Pieces.{ReadSoFar}
use Rattle.presence_table.proofs.read_input.Given as goal

abbrev pub invariant-loop : goal.invariant-loop
invariant-loop g l = (length l.piece ≡ 65536) × ReadSoFar (g.R.Read.remaining l.initial.input) (g.R.Read.remaining l.input) l.reader
