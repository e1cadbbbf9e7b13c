-- `vmd_output::file_size` meets its contract. Assumes nothing.
use native.Mathlib.Omega.{arith}
use Rattle.vmd_format.specs.Join.{file_length}
use Rattle.vmd_laws.specs.AnswerLaws.{within_over}
use Rattle.vmd_output.proofs.file_size.Goals as goal

pub returns-then-states : goal.returns-then-states
unfolding file_length
returns-then-states c = within_over _ _ (omega arith)

pub returns : goal.returns
unfolding file_length
returns c = rw (← c.model_width.ensures.value) c.size_within.ensures
