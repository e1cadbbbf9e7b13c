-- `vmd_index::read_index` meets its contract. The invariant: what is left of the piece makes of the reader what the whole piece
-- makes of the first one. Assumes nothing.
use Rattle.std.proofs.Common.{◌≡◌, drop}
use Rattle.vmd_index.specs.Steps.{reader_at, fed}
use Rattle.vmd_index.proofs.read_index.Given as goal

abbrev pub invariant-loop-b : goal.invariant-loop-b
invariant-loop-b l = fed (reader_at l.words l.at) (drop l.b-index l.piece) ≡ fed (reader_at l.initial.words l.initial.at) l.piece
