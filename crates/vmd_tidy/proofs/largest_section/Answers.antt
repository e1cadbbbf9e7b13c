-- `vmd_tidy::largest_section` meets its contract. Assumes nothing.
use Rattle.vmd_tidy.specs.Stages.{largest_count}
use Rattle.vmd_tidy.proofs.Laws.{max_assoc}
use Rattle.vmd_tidy.proofs.largest_section.Goals as goal

pub returns : goal.returns
unfolding largest_count
returns c =
    rw (c.max-3.ensures, c.max-front.ensures, c.max.ensures, c.max-back.ensures, c.max-2.ensures, c.counts-n.ensures) (simp max_assoc)
