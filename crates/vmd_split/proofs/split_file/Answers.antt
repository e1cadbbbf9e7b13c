-- `vmd_split::split_file` meets its contract. Assumes nothing.
use mathlib.Core.Path.{sym, ◌∙◌}
use Rattle.vmd_base.proofs.Refused.{handed_on}
use Rattle.vmd_split.proofs.Laws.{fits_agree, parts_rooms, split_refused, split_over, split_into, sizes_done, parts_done}
use Rattle.vmd_split.proofs.split_file.Goals as goal

pub returns-in_err-take-clause-result_value : goal.returns-in_err-take-clause-result_value
returns-in_err-take-clause-result_value c = handed_on _ _ _ c.from_residual.ensures.1 ∙ (split_refused _ _ _ (sym c.in_err-take.ensures.found)).0

pub returns-in_err-take-clause-parts_after : goal.returns-in_err-take-clause-parts_after
returns-in_err-take-clause-parts_after c = (split_refused _ _ _ (sym c.in_err-take.ensures.found)).1

pub returns-then-not-parts_fit-clause-result_value : goal.returns-then-not-parts_fit-clause-result_value
returns-then-not-parts_fit-clause-result_value c =
    let t = c.in_ok-take.ensures in
    let k = c.in_ok-take.take.scanned in
    let whole = split_over _ _ _ (rw t.same (sym t.found)) k (fits_agree _ _ k _ ∙ sym c.parts_fit.ensures ∙ c.if-not-parts_fit.true) in
    rw (← t.same) whole.0

pub returns-then-not-parts_fit-clause-parts_after : goal.returns-then-not-parts_fit-clause-parts_after
returns-then-not-parts_fit-clause-parts_after c =
    let t = c.in_ok-take.ensures in
    let k = c.in_ok-take.take.scanned in
    let whole = split_over _ _ _ (rw t.same (sym t.found)) k (fits_agree _ _ k _ ∙ sym c.parts_fit.ensures ∙ c.if-not-parts_fit.true) in
    rw (← t.same) whole.1

pub write-requires : goal.write-requires
write-requires c = (parts_rooms (sym c.parts_fit.ensures ∙ c.if-not-parts_fit.false)).records

pub write-bone_table-requires : goal.write-bone_table-requires
write-bone_table-requires c =
    let r = parts_rooms (sym c.parts_fit.ensures ∙ c.if-not-parts_fit.false) in
    record { columns_fit = r.bones; names_fit = r.bone_names }

pub write-morph_table-requires : goal.write-morph_table-requires
write-morph_table-requires c =
    let r = parts_rooms (sym c.parts_fit.ensures ∙ c.if-not-parts_fit.false) in
    record { columns_fit = r.morphs; names_fit = r.morph_names }

pub returns-clause-result_value : goal.returns-clause-result_value
returns-clause-result_value c =
    let t = c.in_ok-take.ensures in
    let k = c.in_ok-take.take.scanned in
    let g = split_into _ _ _ (rw t.same (sym t.found)) k (fits_agree _ _ k _ ∙ sym c.parts_fit.ensures ∙ c.if-not-parts_fit.false) in
    rw (← t.same) (sizes_done _ _ g c.write.ensures.written c.write-bone_table.ensures.written c.write-morph_table.ensures.written)

pub returns-clause-parts_after : goal.returns-clause-parts_after
returns-clause-parts_after c =
    let t = c.in_ok-take.ensures in
    let k = c.in_ok-take.take.scanned in
    let g = split_into _ _ _ (rw t.same (sym t.found)) k (fits_agree _ _ k _ ∙ sym c.parts_fit.ensures ∙ c.if-not-parts_fit.false) in
    rw (← t.same) (parts_done _ _ g c.write.ensures.written c.write-bone_table.ensures.written c.write-morph_table.ensures.written)
