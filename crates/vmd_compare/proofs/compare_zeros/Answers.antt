-- `vmd_compare::compare_zeros` meets its contract. Assumes nothing.
use mathlib.Core.Path.{sym, ap, ◌∙◌}
use Prim.Native.Nat.{◌+◌}
use Rattle.std.proofs.Math.Nat.{add-sub_cancel_left}
use Rattle.std.proofs.Common.{rules, tests}
use Rattle.std.proofs.lemmas.Iterator.{YieldsList-from_slice}
use Rattle.std.proofs.lemmas.Iterator.Search.{position_from_yields_List}
use Rattle.vmd_form.specs.Compare.{agrees}
use Rattle.vmd_compare.proofs.Places.{is_other, told, zeros_told}
use Rattle.vmd_compare.proofs.compare_zeros.Goals as goal

pub returns-in-Some : goal.returns-in-Some
returns-in-Some c =
    let a = c.args in
    let found = position_from_yields_List is_other _ _ c.position.result c.position.ensures.ran (YieldsList-from_slice _ c.iter.ensures.rest) (λ x b q k. search (rules, tests)) in
    ap (λ r. told r a.at (agrees (a.at + a.n))) (sym c.in-Some.is) ∙ zeros_told a.file.now a.at _ a.n c.requires (rw add-sub_cancel_left at found)

pub returns-in-None : goal.returns-in-None
returns-in-None c =
    let a = c.args in
    let found = position_from_yields_List is_other _ _ c.position.result c.position.ensures.ran (YieldsList-from_slice _ c.iter.ensures.rest) (λ x b q k. search (rules, tests)) in
    ap (λ r. told r a.at (agrees (a.at + a.n))) (sym c.in-None.is) ∙ zeros_told a.file.now a.at _ a.n c.requires (rw add-sub_cancel_left at found)
