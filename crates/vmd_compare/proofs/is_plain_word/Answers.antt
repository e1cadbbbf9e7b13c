-- `vmd_compare::is_plain_word` meets its contract. Assumes nothing.
use native.Mathlib.Omega.{arith}
use borrow.Author.Tests.{eqb-true}
use Rattle.vmd_compare.specs.NameLaws.{plain_word}
use Rattle.vmd_compare.proofs.is_plain_word.Goals as goal

pub returns : goal.returns
returns c =
    λ e. plain_word c.args.file.now c.args.at c.word_at-x.result c.canonical_word.result (omega arith) c.word_at-x.ensures c.canonical_word.ensures (eqb-true _ _ e)
