-- `vmd_header::header_of` meets its contract. Assumes nothing.
use Prim.Native.Nat.{◌+◌, ◌-◌}
use mathlib.Core.Path.{◌≡◌, sym, ap, ◌∙◌}
use native.Mathlib.Omega.{arith}
use Rattle.vmd_format.specs.Answer.{given, map_answer}
use Rattle.vmd_laws.specs.Places.{header_places}
use Rattle.vmd_laws.specs.ScanLaws.{past_short, past_whole}
use Rattle.vmd_header.proofs.header_of.Goals as goal

pub returns-then-file-width : goal.returns-then-file-width
unfolding map_answer
returns-then-file-width c = sym (ap (map_answer header_places) (past_short _ _ (omega (arith, c.model_width-width.ensures.value))))

pub returns : goal.returns
unfolding map_answer
returns c =
    let w = c.model_width-width in
    let same : w.result ≡ (30 + w.result) - 30 = omega arith in
    (λ i. given (record { name = 30; width = same i; sections = 30 + w.result }))
    ∙ rw w.ensures.value (sym (ap (map_answer header_places) (past_whole _ _ (omega (arith, w.ensures.value)))))
