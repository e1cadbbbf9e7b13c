-- `vmd_places::next_place` meets its contract. Assumes nothing.
use mathlib.Core.Path.{sym, ◌∙◌}
use native.Mathlib.Omega.{arith}
use borrow.Author.Tests.{leb-true, leb-false}
use Rattle.vmd_places.proofs.Places.{next_short, next_over, next_found}
use Rattle.vmd_places.proofs.next_place.Goals as goal

pub returns-then-not-holds_frame : goal.returns-then-not-holds_frame
returns-then-not-holds_frame c = sym (next_short _ _ (leb-false _ _ (sym c.holds_frame.ensures ∙ c.if-not-holds_frame.true)))

pub overflow_add-at : goal.overflow_add-at
overflow_add-at c = let nine = leb-true _ _ (sym c.holds_frame.ensures ∙ c.if-not-holds_frame.false) in omega arith

pub read_u32_le-states-requires : goal.read_u32_le-states-requires
read_u32_le-states-requires c = let nine = leb-true _ _ (sym c.holds_frame.ensures ∙ c.if-not-holds_frame.false) in omega arith

pub overflow_sub-file : goal.overflow_sub-file
overflow_sub-file c = let nine = leb-true _ _ (sym c.holds_frame.ensures ∙ c.if-not-holds_frame.false) in omega arith

pub overflow_sub-file-2 : goal.overflow_sub-file-2
overflow_sub-file-2 c = let nine = leb-true _ _ (sym c.holds_frame.ensures ∙ c.if-not-holds_frame.false) in omega arith

pub returns-then-file-at : goal.returns-then-file-at
returns-then-file-at c =
    let nine = leb-true _ _ (sym c.holds_frame.ensures ∙ c.if-not-holds_frame.false) in
    sym (next_over _ _ _ c.read_u32_le-states.ensures (omega arith))

pub overflow_add-result : goal.overflow_add-result
overflow_add-result c = let nine = leb-true _ _ (sym c.holds_frame.ensures ∙ c.if-not-holds_frame.false) in omega arith

pub overflow_add-result-2 : goal.overflow_add-result-2
overflow_add-result-2 c = let nine = leb-true _ _ (sym c.holds_frame.ensures ∙ c.if-not-holds_frame.false) in omega arith

pub returns : goal.returns
returns c =
    let nine = leb-true _ _ (sym c.holds_frame.ensures ∙ c.if-not-holds_frame.false) in
    sym (next_found _ _ _ c.read_u32_le-states.ensures (omega arith))
