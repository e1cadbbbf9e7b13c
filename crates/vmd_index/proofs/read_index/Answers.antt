use Rattle.vmd_index.specs.Steps.{reader_at}
use Rattle.vmd_index.proofs.Laws.{fed_byte, fed_done}
use Rattle.vmd_index.proofs.read_index.Goals as goal

pub loop-b-preserved : goal.loop-b-preserved
loop-b-preserved c = rw c.step.ensures (fed_byte (reader_at c.loop-b.words c.loop-b.at) c.args.piece.now c.loop-b.b-index c.loop-b-test.true c.loop-b.invariant)

pub returns : goal.returns
returns c = fed_done (reader_at c.loop-b.words c.loop-b.at) c.args.piece.now c.loop-b.b-index c.loop-b-test.false c.loop-b.invariant
