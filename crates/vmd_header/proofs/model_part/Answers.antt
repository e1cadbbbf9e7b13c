-- `vmd_header::model_part` meets its contract. Assumes nothing.
use mathlib.Core.Path.{sym, ap, ◌∙◌}
use Rattle.vmd_places.specs.Parts.{name_in}
use Rattle.vmd_base.specs.Meaning.{answer}
use Rattle.vmd_header.specs.Meaning.{header_is}
use Rattle.vmd_header.proofs.Laws.{name_begins, header_headed, no_part}
use Rattle.vmd_header.proofs.model_part.Goals as goal

pub name_at-requires : goal.name_at-requires
name_at-requires c =
    (header_headed _ _ (sym c.read_header.ensures ∙ ap (answer header_is) c.in-Ok.is)).name_ends

pub returns-in-Err : goal.returns-in-Err
returns-in-Err c = no_part _ _ (sym c.read_header.ensures ∙ ap (answer header_is) c.in-Err.is)

pub returns-in-Ok : goal.returns-in-Ok
unfolding name_in
returns-in-Ok c =
    let e = sym c.read_header.ensures ∙ ap (answer header_is) c.in-Ok.is in
    rw (← (header_headed _ _ e).named, ← name_begins _ _ e) c.name_at.ensures
