-- `vmd_count::next_if` meets its contract. Assumes nothing.
use Rattle.vmd_count.proofs.HeldLaws.{step_sum}
use Rattle.vmd_count.proofs.next_if.Goals as goal

pub returns : goal.returns
returns c = step_sum c.args.on c.args.j
