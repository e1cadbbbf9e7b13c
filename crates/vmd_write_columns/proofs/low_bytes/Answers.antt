-- `vmd_write_columns::low_bytes` meets its contract. Assumes nothing.
use Rattle.vmd_write_columns.proofs.Names.{word_low}
use Rattle.vmd_write_columns.proofs.low_bytes.Goals as goal

pub returns : goal.returns
returns c = word_low c.args.x c.args.n c.requires
