-- `vmd_parts::build_vmd_size` meets its contract. Assumes nothing.
use mathlib.Core.Path.{sym, ◌∙◌}
use Rattle.vmd_base.proofs.Refused.{handed_on}
use Rattle.vmd_parts.proofs.Size.{checked, small, refused_built, sized_built}
use Rattle.vmd_parts.proofs.build_vmd_size.Goals as goal

pub parts_size-requires : goal.parts_size-requires
parts_size-requires c = small _ (checked _ (sym c.in_ok-parts_check.ensures))

pub returns-in_err-parts_check : goal.returns-in_err-parts_check
returns-in_err-parts_check c =
    handed_on _ _ _ c.from_residual.ensures.1 ∙ refused_built _ _ (sym c.in_err-parts_check.ensures)

pub returns : goal.returns
returns c = sized_built _ _ (sym c.in_ok-parts_check.ensures) c.parts_size.ensures
