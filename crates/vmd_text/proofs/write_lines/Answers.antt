use Rattle.std.proofs.Common.{refl, ◌∙◌, ◌+◌, ◌*◌, ◌≤◌, length, length-set, get_or, arith}
use Rattle.vmd_text.specs.Text.{decimal, number_lines}
use Rattle.vmd_text.proofs.Laws.{wrote_none, decimal_of_word, lines_turn}
use Rattle.vmd_text.proofs.write_lines.Goals as goal

pub loop-number-init : goal.loop-number-init
unfolding number_lines
loop-number-init c = (omega arith, refl, wrote_none _ 0)

pub loop-number-preserved : goal.loop-number-preserved
loop-number-preserved c =
    let w = c.write_decimal-at in
    let t = c.loop-number in
    let s = c.args in
    let d = rw c.from.ensures at w.ensures.wrote in
    let h : length (decimal (get_or s.numbers.now t.number-index 0)) ≤ 10 = decimal_of_word _ (c.type_inv.numbers t.number-index).fits in
    let e : w.result + 1 ≤ 11 * (t.number-index + 1) = omega (arith, d.ends) in (
      e,
      simp length-set (w.auto.out ∙ t.invariant.1),
      lines_turn s.numbers.now s.out.now _ _ _ t.number-index w.result (omega arith) t.invariant.2 d (omega arith),
    )
