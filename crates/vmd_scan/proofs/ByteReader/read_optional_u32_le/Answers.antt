-- `vmd_scan::ByteReader::read_optional_u32_le` meets its contract. Assumes nothing.
use mathlib.Core.Path.{refl, sym, ◌∙◌}
use native.Mathlib.Omega.{arith}
use Rattle.vmd_format.specs.Answer.{map_answer}
use Rattle.vmd_base.proofs.Refused.{handed_on}
use Rattle.vmd_scan.proofs.Laws.{number_missing, number_there}
use Rattle.vmd_scan.proofs.ByteReader.read_optional_u32_le.Goals as goal

pub returns-then-remaining-eq0 : goal.returns-then-remaining-eq0
returns-then-remaining-eq0 c = sym (number_missing _ _ (omega arith))

pub returns-in_err-number : goal.returns-in_err-number
unfolding map_answer
returns-in_err-number c =
    let a = c.args in
    handed_on _ _ _ c.from_residual.ensures.1
    ∙ rw (number_there a.file.now a.self.pos (omega arith), sym c.in_err-number.ensures) refl

pub returns : goal.returns
unfolding map_answer
returns c =
    let a = c.args in
    rw (number_there a.file.now a.self.pos (omega arith), sym c.in_ok-number.ensures) refl
