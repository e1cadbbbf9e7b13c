-- `vmd_line::write_refused` meets its contract. Assumes nothing.
use native.Mathlib.Omega.{arith}
use Rattle.vmd_line.proofs.Laws.{refused_done}
use Rattle.vmd_line.proofs.write_refused.Goals as goal

pub returns : goal.returns
returns c =
    refused_done _ _ _ _ _ _ _ _ (omega arith) c.write_text-at.ensures c.write_decimal-end.ensures.wrote c.write_decimal-end.ensures.upper_bound c.write_text.ensures
