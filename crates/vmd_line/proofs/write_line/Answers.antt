-- `vmd_line::write_line` meets its contract. Assumes nothing.
use mathlib.Core.Path.{sym, ◌∙◌}
use Rattle.vmd_laws.specs.InsideLaws.{opened_few}
use Rattle.vmd_line.specs.Line.{too_long}
use Rattle.vmd_line.proofs.Laws.{line_long, line_refused, line_opened, scratch_long, scratch_short}
use Rattle.vmd_line.proofs.write_line.Goals as goal

pub returns-then-file-gt-MOST_BYTES : goal.returns-then-file-gt-MOST_BYTES
unfolding too_long
returns-then-file-gt-MOST_BYTES c =
    let h = c.if-file-gt-MOST_BYTES.true in
    record { wrote = rw (line_long _ _ _ h) c.write_text.ensures; scratch_left = sym (scratch_long _ _ _ h) }

pub numbers_of-numbers-requires : goal.numbers_of-numbers-requires
numbers_of-numbers-requires c =
    opened_few _ _ _ _ c.if-file-gt-MOST_BYTES.false (sym c.in-Ok.ensures.result_value)

pub returns-in-Err : goal.returns-in-Err
returns-in-Err c =
    let h = c.if-file-gt-MOST_BYTES.false in
    let e = line_refused _ _ _ h _ (c.in-Err.ensures.result_value) in
    record { wrote = rw (e, ← c.number.ensures) c.write_refused.ensures; scratch_left = c.open_file.ensures.scratch_left ∙ sym (scratch_short _ _ _ h) }

pub returns-in-Ok : goal.returns-in-Ok
returns-in-Ok c =
    let h = c.if-file-gt-MOST_BYTES.false in
    let e = line_opened _ _ _ h _ (c.in-Ok.ensures.result_value) in
    record { wrote = rw (e, ← c.numbers_of-numbers.ensures) c.write_row.ensures; scratch_left = c.open_file.ensures.scratch_left ∙ sym (scratch_short _ _ _ h) }
