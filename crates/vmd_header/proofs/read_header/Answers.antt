-- `vmd_header::read_header` meets its contract. Assumes nothing.
use mathlib.Core.Path.{sym, ap, ◌∙◌}
use native.Mathlib.Omega.{arith}
use Rattle.vmd_format.specs.Answer.{map_answer}
use Rattle.vmd_format.specs.Take.{newer, older, magic, older_magic}
use Rattle.vmd_laws.specs.Places.{header_places}
use Rattle.vmd_laws.specs.ScanLaws.{header_short, header_other, header_known, edition_newer, edition_older, edition_other}
use Rattle.vmd_header.proofs.read_header.Goals as goal

pub returns-then-file-lt-MAGIC_SIZE : goal.returns-then-file-lt-MAGIC_SIZE
unfolding map_answer
returns-then-file-lt-MAGIC_SIZE c = sym (ap (map_answer header_places) (header_short _ (omega arith)))

pub returns-then-same_start : goal.returns-then-same_start
unfolding magic
returns-then-same_start c =
    let e = edition_newer _ (sym c.same_start.ensures ∙ c.if-same_start.true) in
    c.header_of.ensures ∙ sym (ap (map_answer header_places) (header_known _ newer e))

pub returns-then-same_start-2 : goal.returns-then-same_start-2
unfolding magic older_magic
returns-then-same_start-2 c =
    let e = edition_older _ (sym c.same_start.ensures ∙ c.if-same_start.false) (sym c.same_start-2.ensures ∙ c.if-same_start-2.true) in
    c.header_of-then-same_start-2.ensures ∙ sym (ap (map_answer header_places) (header_known _ older e))

pub returns : goal.returns
unfolding magic older_magic map_answer
returns c =
    let e = edition_other _ (sym c.same_start.ensures ∙ c.if-same_start.false) (sym c.same_start-2.ensures ∙ c.if-same_start-2.false) in
    sym (ap (map_answer header_places) (header_other _ _ (omega arith) e))
