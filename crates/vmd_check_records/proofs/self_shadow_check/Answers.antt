-- `vmd_check_records::self_shadow_check` meets its contract. Assumes nothing.
use Rattle.vmd_check_records.proofs.Records.{shadow_mode, shadow_distance}
use Rattle.vmd_check_records.proofs.self_shadow_check.Goals as goal
use Rattle.vmd_check_records.proofs.self_shadow_check.Goals.{then-finite_words, else-finite_words}

pub returns : goal.returns
returns c =
    let a = c.args in
    elim c.if-finite_words.branch [
      | then-finite_words w ↦ shadow_mode a.bytes.now a.at c.finite_words.ensures c.need.ensures w.if-finite_words.true w.need-is
      | else-finite_words w ↦ shadow_distance a.bytes.now a.at c.finite_words.ensures c.need.ensures w.if-finite_words.false w.need-is
    ]
