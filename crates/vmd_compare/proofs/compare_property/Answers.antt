-- `vmd_compare::compare_property` meets its contract. Assumes nothing.
use mathlib.Core.Path.{sym, ap, ◌∙◌}
use Prim.Native.Nat.{ℕ, ◌+◌}
use native.Mathlib.Omega.{arith}
use Rattle.vmd_form.specs.Rows.{rows, ik_row}
use Rattle.vmd_form.specs.FrameLaws.{frame_differs, frame_agrees}
use Rattle.vmd_form.specs.Compare.{compare_at}
use Rattle.vmd_format.specs.Fetch.{next_frame}
use Rattle.vmd_compare.proofs.Handed.{handed_on}
use Rattle.vmd_compare.proofs.compare_property.Goals as goal

pub returns-in_err-compare_flag : goal.returns-in_err-compare_flag
returns-in_err-compare_flag c =
    handed_on _ _ c.from_residual.ensures.1 ∙ sym (frame_differs c.args.file.now (λ i. (c.type_inv.file i).fits) c.args.at c.requires _ (sym c.in_err-compare_flag.ensures))

pub overflow_add-at : goal.overflow_add-at
unfolding next_frame
overflow_add-at c = omega (arith, c.requires)

pub compare_flag-requires : goal.compare_flag-requires
unfolding next_frame
compare_flag-requires c = omega (arith, c.requires)

pub overflow_add-at-2 : goal.overflow_add-at-2
unfolding next_frame
overflow_add-at-2 c = omega (arith, c.requires)

pub read_u32_le-states-requires : goal.read_u32_le-states-requires
unfolding next_frame
read_u32_le-states-requires c = omega (arith, c.requires)

pub overflow_add-place : goal.overflow_add-place
unfolding next_frame
overflow_add-place c = omega (arith, c.requires)

pub compare_rows-requires : goal.compare_rows-requires
unfolding next_frame
compare_rows-requires c =
    omega (arith, c.requires, c.read_u32_le-states.ensures)

pub returns : goal.returns
returns c =
    c.compare_rows.ensures ∙ ap (λ (n : ℕ). compare_at c.args.file.now (c.args.at + 9) (rows (ik_row c.args.file.now) 21 n (c.args.at + 9))) c.read_u32_le-states.ensures ∙ sym (frame_agrees c.args.file.now (λ i. (c.type_inv.file i).fits) c.args.at c.requires _ (sym c.in_ok-compare_flag.ensures))
