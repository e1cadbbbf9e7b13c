-- `vmd_write_columns::write_table_name` meets its contract. Assumes nothing.
use mathlib.Core.Path.{ap, ◌∙◌}
use mathlib.Core.List.{List}
use Prim.Native.Nat.{ℕ}
use Rattle.vmd_format.specs.Bytes.{padded}
use Rattle.vmd_bytes.specs.Slices.{splice}
use Rattle.vmd_bytes.proofs.Laws.{range_part}
use Rattle.vmd_write_columns.proofs.Names.{name_written}
use Rattle.vmd_write_columns.proofs.write_table_name.Goals as goal

pub returns-then-bytes-start-lt-NAME_WORDS : goal.returns-then-bytes-start-lt-NAME_WORDS
returns-then-bytes-start-lt-NAME_WORDS c =
    let a = c.args in
    c.write_fixed_bytes.ensures ∙ ap (λ (t : List ℕ). splice a.out.now a.to (padded 16 t)) (range_part a.bytes.now a.start a.n)

pub returns : goal.returns
returns c =
    let a = c.args in
    name_written c.word_at.result c.word_at-2.result c.low_bytes-low.result c.low_bytes-high.result a.bytes.now a.start a.n a.out.now a.to
    c.requires.0 c.requires.2 c.saturating_sub-past.ensures c.word_at.ensures c.low_bytes-low.ensures c.word_at-2.ensures c.low_bytes-high.ensures
    c.put_word.ensures c.put_word-2.ensures
