-- `vmd_places::place_of_ik_state` meets its contract. Assumes nothing.
use mathlib.Core.Path.{sym}
use native.Mathlib.Omega.{arith}
use Rattle.vmd_format.specs.Fetch.{ik_extent}
use Rattle.vmd_base.proofs.Refused.{first_refused, first_given}
use Rattle.vmd_places.specs.Meaning.{ik_place}
use Rattle.vmd_places.proofs.Places.{property_ends}
use Rattle.vmd_places.proofs.place_of_ik_state.Goals as goal

pub overflow_add-at : goal.overflow_add-at
overflow_add-at c = omega (arith, property_ends _ _ _ _ _ (sym c.in_ok-at.ensures))

pub read_u32_le-count-requires : goal.read_u32_le-count-requires
read_u32_le-count-requires c = omega (arith, property_ends _ _ _ _ _ (sym c.in_ok-at.ensures))

pub overflow_add-place : goal.overflow_add-place
overflow_add-place c = omega (arith, property_ends _ _ _ _ _ (sym c.in_ok-at.ensures))

pub returns-in_err-at : goal.returns-in_err-at
unfolding ik_place
returns-in_err-at c = first_refused _ _ _ _ c.from_residual.ensures.1 c.in_err-at.ensures

pub returns : goal.returns
unfolding ik_place ik_extent
returns c = first_given _ _ c.in_ok-at.ensures (rw (← c.read_u32_le-count.ensures) c.place_of.ensures)
