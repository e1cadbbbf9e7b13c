-- `vmd_export::also_fits` meets its contract. Assumes nothing.
use Rattle.vmd_export.proofs.also_fits.Goals as goal

pub returns-then-so_far : goal.returns-then-so_far
returns-then-so_far c = rw c.if-so_far.true

pub returns-else-so_far : goal.returns-else-so_far
returns-else-so_far c = rw c.if-so_far.false
