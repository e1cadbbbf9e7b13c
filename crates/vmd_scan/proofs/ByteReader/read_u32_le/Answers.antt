-- `vmd_scan::ByteReader::read_u32_le` meets its contract. Assumes nothing.
use mathlib.Core.Path.{sym}
use native.Mathlib.Omega.{arith}
use Rattle.vmd_scan.proofs.Laws.{number_short, number_whole}
use Rattle.vmd_scan.proofs.ByteReader.read_u32_le.Goals as goal

pub returns-then-remaining-lt4 : goal.returns-then-remaining-lt4
returns-then-remaining-lt4 c = sym (number_short _ _ (omega arith))

pub returns : goal.returns
returns c = sym (number_whole _ _ _ (omega arith) c.read_u32_le-n.ensures)
