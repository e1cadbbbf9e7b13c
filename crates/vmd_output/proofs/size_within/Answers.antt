-- `vmd_output::size_within` meets its contract. Assumes nothing.
use native.Mathlib.Omega.{arith}
use Rattle.vmd_laws.specs.AnswerLaws.{within_fits, within_over}
use Rattle.vmd_output.proofs.size_within.Goals as goal

pub returns-then-limit-front : goal.returns-then-limit-front
returns-then-limit-front c = within_over _ _ (omega arith)

pub returns-then-limit-front-2 : goal.returns-then-limit-front-2
returns-then-limit-front-2 c = within_over _ _ (omega arith)

pub returns : goal.returns
returns c = within_fits _ _ (omega arith)
