-- `vmd_text::write_decimal` meets its contract: the number falls. Assumes nothing.
use Rattle.std.proofs.Common.{arith}
use Rattle.vmd_text.proofs.Laws.{decimal_short, digit_one, digit_more}
use Rattle.vmd_text.proofs.+write_decimal.Goals as goal

pub returns-then-n-lt10-clause-wrote : goal.returns-then-n-lt10-clause-wrote
returns-then-n-lt10-clause-wrote t c =
    let w = digit_one _ _ _ c.requires c.if-n-lt10.true in rw c.digit.ensures w

pub bounds-out-at : goal.bounds-out-at
bounds-out-at t c = (digit_more _ _ _ c.requires _ _ c.ranges.n.fits c.if-n-lt10.false c.write_decimal-at.ensures.wrote).0

pub returns-clause-wrote : goal.returns-clause-wrote
returns-clause-wrote t c =
    let w = (digit_more _ _ _ c.requires _ _ c.ranges.n.fits c.if-n-lt10.false c.write_decimal-at.ensures.wrote).1 in
    rw c.digit-2.ensures w

pub returns-clause-upper_bound : goal.returns-clause-upper_bound
returns-clause-upper_bound t c =
    let w = (digit_more _ _ _ c.requires _ _ c.ranges.n.fits c.if-n-lt10.false c.write_decimal-at.ensures.wrote).1 in
    omega (arith, w.ends, decimal_short c.args.n c.ranges.n.fits)
