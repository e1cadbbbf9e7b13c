-- `vmd_check_columns::VmdBoneColumns::bone_check` meets its contract. Assumes nothing.
use mathlib.Core.Path.{ap, ◌∙◌}
use Prim.Native.Nat.{◌*◌}
use mathlib.Core.Bool.{Bool}
use lib.ListN.{take, drop}
use Rattle.vmd_check_columns.specs.Meaning.{bits}
use Rattle.vmd_format.specs.Refusal.{not_finite}
use Rattle.vmd_format.specs.Parts.{need, all_finite}
use Rattle.vmd_names.proofs.Checks.{chain_fails, chain_on, exit_fails, and_on, and_off}
use Rattle.vmd_check_columns.specs.Stages.{bone_right}
use Rattle.vmd_check_columns.proofs.Columns.{bits_part}
use Rattle.vmd_check_columns.proofs.VmdBoneColumns.bone_check.Goals as goal
use Rattle.vmd_check_columns.proofs.VmdBoneColumns.bone_check.Goals.{then-floats_finite, else-floats_finite}

pub returns-in_err-index_check : goal.returns-in_err-index_check
unfolding bone_right
returns-in_err-index_check c =
    exit_fails _ _ c.from_residual.ensures.1 (chain_fails _ c.in_err-index_check.ensures)

pub returns : goal.returns
unfolding bone_right
returns c =
    let x = c.args.self.now in
    let i = c.args.i in
    let b : Bool = all_finite (take 4 (drop (4 * i) (bits x.rotations_xyzw.now))) in
    chain_on _ c.in_ok-index_check.ensures
    (c.need.ensures ∙ ap (λ b. need b not_finite)
    (elim c.if-floats_finite.branch [
      | then-floats_finite w ↦ and_on b (c.floats_finite.ensures ∙ ap all_finite (bits_part x.translations_xyz.now (3 * i) 3)) w.if-floats_finite.true
          (w.need-is ∙ w.floats_finite-then-floats_finite.ensures ∙ ap all_finite (bits_part x.rotations_xyzw.now (4 * i) 4))
      | else-floats_finite w ↦ and_off b (c.floats_finite.ensures ∙ ap all_finite (bits_part x.translations_xyz.now (3 * i) 3)) w.if-floats_finite.false w.need-is
    ]))
