-- `vmd_export::both::VmdBoth::size` meets its contract. Assumes nothing.
use Rattle.vmd_export.specs.Together.{sum_length}
use Rattle.vmd_export.proofs.both.VmdBoth.size.Goals as goal

pub returns : goal.returns
unfolding sum_length
returns c = c.file_size.ensures
