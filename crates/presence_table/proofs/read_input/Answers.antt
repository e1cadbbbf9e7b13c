-- `presence_table::read_input` meets its contract: each piece leaves less of the input, and a read that gives no byte is at its end.
-- Assumes nothing.
use Rattle.std.proofs.Common.{rules, refl, sym, subst}
use Rattle.presence_table.proofs.Pieces.{ReadSoFar, nothing_read, read_more, read_none, all_read}
use Rattle.presence_table.proofs.read_input.Goals as goal

pub loop-init : goal.loop-init
loop-init g c = (refl, subst (ReadSoFar _ _) (sym c.index_reader-reader.ensures) (nothing_read _))

pub returns-in-Ok-eq0 : goal.returns-in-Ok-eq0
returns-in-Ok-eq0 g c =
    let read = c.in-Ok-eq0.ensures.bytes in
    let left = read_none _ _ _ _ c.in-Ok-eq0.field-0 c.read.new.buf (search rules) c.loop.invariant.1 read.0 in
    all_read _ _ _ left (read.1 (search rules) (search rules))

pub loop-preserved : goal.loop-preserved
loop-preserved g c =
    (search rules, subst (ReadSoFar _ _) (sym c.read_index-reader.ensures) (read_more _ _ _ _ _ c.loop.invariant.1 c.in-Ok.ensures.bytes.0))
