-- `vmd_bytes::write_fixed_bytes` meets its contract: a value that is too wide is cut, and after any other come zeros. Assumes nothing.
use Rattle.std.proofs.Common.{◌∙◌, arith}
use Rattle.vmd_bytes.specs.Slices.{run}
use Rattle.vmd_bytes.proofs.Laws.{run_all, padded_long, splice_padded}
use Rattle.vmd_bytes.proofs.write_fixed_bytes.Goals as goal

pub returns-then-width-n : goal.returns-then-width-n
unfolding run
returns-then-width-n c =
    let s = c.args in
    rw (padded_long s.width s.value.now (omega arith)) c.copy_bytes.ensures

pub returns : goal.returns
returns c =
    let copied = c.before.before.before.before.before.before in
    let s = copied.args in
    c.fill_zeros.ensures
    ∙ rw (copied.copy_bytes-2.ensures, run_all) (splice_padded s.out.now s.value.now s.to s.width (omega arith) (omega arith))
