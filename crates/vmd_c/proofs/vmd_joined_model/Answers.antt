-- `vmd_c::vmd_joined_model` meets its contract. Assumes nothing.
use native.Mathlib.Omega.{arith}
use Rattle.vmd_slots.proofs.Laws.{joined_none, joined_second, joined_first}
use Rattle.vmd_c.proofs.vmd_joined_model.Goals as goal

pub returns-then-n-eq0 : goal.returns-then-n-eq0
returns-then-n-eq0 c = joined_none _ _ c.joined_model-n.ensures c.if-n-eq0.true

pub returns-then-model_name-eq0 : goal.returns-then-model_name-eq0
returns-then-model_name-eq0 c =
    joined_second _ _ c.joined_model-n.ensures (omega arith) c.model_name.ensures c.if-model_name-eq0.true

pub returns : goal.returns
returns c =
    joined_first _ _ c.joined_model-n.ensures c.model_name.ensures (omega arith)
