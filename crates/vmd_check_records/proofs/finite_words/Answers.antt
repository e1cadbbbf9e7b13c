use Rattle.vmd_check_records.proofs.Records.{words_start, words_turn, words_end}
use Rattle.vmd_check_records.proofs.finite_words.Goals as goal

pub loop-i-init : goal.loop-i-init
loop-i-init c = words_start

pub loop-i-preserved : goal.loop-i-preserved
loop-i-preserved c =
    words_turn c.loop-i.invariant c.loop-i-test.true c.read_u32_le-bits.ensures c.is_finite_bits-finite.ensures

pub returns : goal.returns
returns c = words_end c.loop-i.invariant c.loop-i-test.false
