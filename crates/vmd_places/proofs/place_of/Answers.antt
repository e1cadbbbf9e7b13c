-- `vmd_places::place_of` meets its contract. Assumes nothing.
use mathlib.Core.Path.{sym}
use native.Mathlib.Omega.{arith}
use Rattle.vmd_places.proofs.Places.{place_past, place_outside, place_found, offset_fits}
use Rattle.vmd_places.proofs.place_of.Goals as goal

pub returns-then-section-i : goal.returns-then-section-i
returns-then-section-i c = sym (place_past _ _ _ _ c.if-section-i.true)

pub returns-then-file-place : goal.returns-then-file-place
returns-then-file-place c = sym (place_outside _ _ _ _ (omega arith))

pub overflow_mul-offset : goal.overflow_mul-offset
overflow_mul-offset c =
    omega (arith, offset_fits c.args.i c.args.section.count c.args.record_size (omega arith) (omega arith) c.requires)

pub overflow_add-offset : goal.overflow_add-offset
overflow_add-offset c =
    omega (arith, offset_fits c.args.i c.args.section.count c.args.record_size (omega arith) (omega arith) c.requires)

pub returns-then-file-place-2 : goal.returns-then-file-place-2
returns-then-file-place-2 c = sym (place_outside _ _ _ _ (omega arith))

pub returns : goal.returns
returns c = sym (place_found _ _ _ _ (omega arith) (omega arith))
