use mathlib.Core.Path.{sym}
use native.Mathlib.Omega.{arith}
use Rattle.vmd_laws.specs.NamesLaws.{fault_start, fault_stop, unit_end}
use Rattle.vmd_names.proofs.Names.{unit_within, good_turn, none_unit, some_unit}
use Rattle.vmd_names.proofs.fault_by.Goals as goal

pub loop-i-init : goal.loop-i-init
loop-i-init c = (omega arith, fault_start c.args.bytes.now)

pub returns-in_default : goal.returns-in_default
returns-in_default c =
    sym (fault_stop c.args.bytes.now c.loop-i.i c.loop-i.invariant.1 (none_unit _ c.in_default.ensures))

pub overflow_add-i : goal.overflow_add-i
overflow_add-i c =
    omega (arith, unit_within c.args.bytes.now c.loop-i.i (some_unit _ c.in-Some.ensures).1 c.loop-i.invariant.0)

pub loop-i-preserved : goal.loop-i-preserved
loop-i-preserved c =
    let s = c.args.bytes.now in (
      omega (arith, unit_within s c.loop-i.i (some_unit _ c.in-Some.ensures).1 c.loop-i.invariant.0),
      good_turn s c.loop-i.i (some_unit _ c.in-Some.ensures).1 (some_unit _ c.in-Some.ensures).0 c.loop-i.invariant.1,
    )

pub returns : goal.returns
returns c =
    let s = c.args.bytes.now in
    sym (fault_stop s c.loop-i.i c.loop-i.invariant.1 (unit_end s c.loop-i.i c.loop-i-test.false))
