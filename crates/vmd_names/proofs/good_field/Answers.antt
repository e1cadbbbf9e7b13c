use mathlib.Core.Path.{refl}
use native.Mathlib.Omega.{arith}
use Rattle.vmd_names.proofs.Names.{unit_within, field_ends, field_zero, field_faulty, field_turn, none_unit, some_unit}
use Rattle.vmd_names.proofs.good_field.Goals as goal

pub loop-i-init : goal.loop-i-init
loop-i-init c = (omega arith, refl)

pub returns-then-field-i-eq0 : goal.returns-then-field-i-eq0
returns-then-field-i-eq0 c =
    field_zero c.args.field.now c.loop-i.i c.loop-i.invariant.1 (omega arith) c.if-field-i-eq0.true

pub returns-in_default : goal.returns-in_default
returns-in_default c =
    field_faulty c.args.field.now c.loop-i.i c.loop-i.invariant.1 (omega arith) c.if-field-i-eq0.false (none_unit _ c.in_default.ensures)

pub overflow_add-i : goal.overflow_add-i
overflow_add-i c =
    omega (arith, unit_within c.args.field.now c.loop-i.i (some_unit _ c.in-Some.ensures).1 c.loop-i.invariant.0)

pub loop-i-preserved : goal.loop-i-preserved
loop-i-preserved c =
    let s = c.args.field.now in (
      omega (arith, unit_within s c.loop-i.i (some_unit _ c.in-Some.ensures).1 c.loop-i.invariant.0),
      field_turn s c.loop-i.i c.loop-i.invariant.1 (omega arith) c.if-field-i-eq0.false (some_unit _ c.in-Some.ensures).1 (some_unit _ c.in-Some.ensures).0,
    )

pub returns : goal.returns
returns c =
    field_ends c.args.field.now c.loop-i.i c.loop-i.invariant.1 (omega arith)
