use native.Mathlib.Omega.{arith}
use Rattle.vmd_names.proofs.Checks.{exit_fails}
use Rattle.vmd_format.specs.Fetch.{next_frame}
use Rattle.vmd_check_records.proofs.Properties.{framing_start, framing_lies, framing_fails, framing_turn, framing_end}
use Rattle.vmd_check_records.proofs.properties_check.Goals as goal

pub loop-init : goal.loop-init
loop-init c = framing_start c.requires (omega (arith, c.property_count-n.ensures))

pub overflow_add-at : goal.overflow_add-at
overflow_add-at c = omega (arith, framing_lies c.loop.invariant (omega arith))

pub read_u32_le-states-requires : goal.read_u32_le-states-requires
read_u32_le-states-requires c = omega (arith, framing_lies c.loop.invariant (omega arith))

pub overflow_add-first : goal.overflow_add-first
overflow_add-first c = omega (arith, framing_lies c.loop.invariant (omega arith))

pub ik_states_check-requires : goal.ik_states_check-requires
ik_states_check-requires c =
    omega (arith, framing_lies c.loop.invariant (omega arith), c.read_u32_le-states.ensures)

pub returns-in_err-ik_states_check : goal.returns-in_err-ik_states_check
returns-in_err-ik_states_check c =
    exit_fails _ _ c.from_residual.ensures.1
    (framing_fails c.loop.invariant (omega arith) c.read_u32_le-states.ensures c.in_err-ik_states_check.ensures)

pub next_property_frame-at-requires : goal.next_property_frame-at-requires
unfolding next_frame
next_property_frame-at-requires c = framing_lies c.loop.invariant (omega arith)

pub loop-preserved : goal.loop-preserved
loop-preserved c =
    framing_turn c.loop.invariant (omega arith) c.read_u32_le-states.ensures c.in_ok-ik_states_check.ensures c.next_property_frame-at.ensures (omega arith)

pub returns : goal.returns
returns c = framing_end c.loop.invariant (omega arith)
