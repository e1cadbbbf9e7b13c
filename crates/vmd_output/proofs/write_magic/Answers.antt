-- `vmd_output::write_magic` meets its contract. Assumes nothing.
use Rattle.vmd_bytes.specs.Slices.{run}
use Rattle.vmd_format.specs.Take.{magic, older_magic, magic_of}
use Rattle.vmd_output.proofs.write_magic.Goals as goal

pub returns-in-Newer : goal.returns-in-Newer
unfolding magic_of magic run
returns-in-Newer c = rw c.in-Newer.is c.copy_bytes.ensures

pub returns-in-Older : goal.returns-in-Older
unfolding magic_of older_magic run
returns-in-Older c = rw c.in-Older.is c.copy_bytes-in-Older.ensures
