-- `vmd_text::write_lines` meets its contract. The invariant: the numbers so far are written, each with its line feed. Assumes nothing.
use Rattle.std.proofs.Common.{◌≡◌, ◌*◌, ◌≤◌, length, take}
use Rattle.vmd_bytes.specs.Written.{Wrote}
use Rattle.vmd_text.specs.Text.{number_lines}
use Rattle.vmd_text.proofs.write_lines.Given as goal

abbrev pub invariant-loop-number : goal.invariant-loop-number
invariant-loop-number l = (l.at ≤ 11 * l.number-index) × (length l.out ≡ length l.initial.out) × Wrote l.initial.out 0 (number_lines (take l.number-index l.numbers)) l.out l.at
